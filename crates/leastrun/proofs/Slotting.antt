-- A send and a finder that fit have one slot in the finder's form.
use Rattle.std.proofs.Common.{◌≡◌, ℕ, ◌==◌, true, ◌&&◌, Option, Some, None, is_some, refl, sym, ◌∙◌, ap, subst}
use Rattle.std.proofs.lemmas.Bool.{eqb-true}
use Rattle.calltext.proofs.Conjunctions.{and_true}
use Rattle.callorder.specs.declared.calls.Call.{Call}
use Rattle.callorder.specs.declared.calls.Message.{Message}
use Rattle.callorder.specs.declared.calls.Pattern.{Pattern}
use Rattle.callorder.specs.declared.calls.Kind.{Kind}
use Rattle.callorder.specs.declared.calls.Kind.TheVariants.{Wait}
use Rattle.callorder.specs.Calls.{message_of, pattern_of, covers, fits_between, both_hold, fits}
use Rattle.callorder.specs.Programs.{MpiProgram, call_at, are_fit, are_of_one_rank}
use Rattle.races.proofs.Steps.{one_rank_made}
use Rattle.leastrun.specs.declared.slot.PatternForm.{PatternForm}
use Rattle.leastrun.specs.parts.Slots.{named, slot_of, slot_of_message, slot_of_pattern, send_slot, finder_slot, form_of}

named_covers : (wanted : Option ℕ) (number : ℕ) → covers wanted number ≡ true → named (is_some wanted) number ≡ wanted
named_covers None number fit = refl
named_covers (Some wanted) number fit = ap (λ (z : ℕ). Some z) (sym (eqb-true wanted number fit))

same_place : (a b e f : ℕ) (c d g h : Option ℕ) → a ≡ e → b ≡ f → c ≡ g → d ≡ h → slot_of a b c d ≡ slot_of e f g h
same_place a b e f c d g h p q r s = rw (p, q, r, s) refl

-- what a send and a finder that fit have in common
pub record Meet (sender : ℕ) (message : Option Message) (taker : ℕ) (pattern : Option Pattern) : Type 0 where
  pub own : Message
  pub sends : message ≡ Some own
  pub wanted : Pattern
  pub asks : pattern ≡ Some wanted
  pub slot : ℕ
  pub send_has : slot_of_message (form_of wanted) sender message ≡ Some slot
  pub finder_has : slot_of_pattern taker pattern ≡ Some slot
  pub there : own.destination ≡ taker

between : (sender : ℕ) (message : Option Message) (taker : ℕ) (pattern : Option Pattern) → fits_between sender message taker pattern ≡ true → Meet sender message taker pattern
between sender None taker pattern fit = absurd (cc)
between sender (Some message) taker None fit = absurd (cc)
between sender (Some message) taker (Some pattern) fit =
    let three = and_true (message.destination == taker && message.communicator == pattern.communicator && covers pattern.source sender) (covers pattern.tag message.tag) fit in
    let two = and_true (message.destination == taker && message.communicator == pattern.communicator) (covers pattern.source sender) three.0 in
    let one = and_true (message.destination == taker) (message.communicator == pattern.communicator) two.0 in
    record {
      own = message;
      sends = refl;
      wanted = pattern;
      asks = refl;
      slot = slot_of taker pattern.communicator pattern.source pattern.tag;
      send_has = ap (λ (z : ℕ). Some z)
          (same_place message.destination message.communicator taker pattern.communicator
          (named (is_some pattern.source) sender) (named (is_some pattern.tag) message.tag) pattern.source pattern.tag
          (eqb-true message.destination taker one.0) (eqb-true message.communicator pattern.communicator one.1)
          (named_covers pattern.source sender two.1) (named_covers pattern.tag message.tag three.1));
      finder_has = refl;
      there = eqb-true message.destination taker one.0;
    }

-- two calls that fit
pub record Fit (p : MpiProgram) (s f : ℕ) : Type 0 where
  pub send : Call
  pub finder : Call
  pub send_there : call_at p s ≡ Some send
  pub finder_there : call_at p f ≡ Some finder
  pub meet : Meet send.rank (message_of send.kind) finder.rank (pattern_of finder.kind)

fit_parts : (a b : Option Call) → both_hold fits a b ≡ true → (x : Call) × (y : Call) × (a ≡ Some x) × (b ≡ Some y) × (fits_between x.rank (message_of x.kind) y.rank (pattern_of y.kind) ≡ true)
fit_parts None b fit = absurd (cc)
fit_parts (Some x) None fit = absurd (cc)
fit_parts (Some x) (Some y) fit = (x, y, refl, refl, fit)

pub fit_of : (p : MpiProgram) (s f : ℕ) → are_fit p s f ≡ true → Fit p s f
fit_of p s f fit =
    let parts = fit_parts (call_at p s) (call_at p f) fit in
    record {
      send = parts.0;
      finder = parts.1;
      send_there = parts.2;
      finder_there = parts.3;
      meet = between parts.0.rank (message_of parts.0.kind) parts.1.rank (pattern_of parts.1.kind) parts.4;
    }

same_call : (a b : Call) → ◌≡◌ {A = Option Call} (Some a) (Some b) → a ≡ b
same_call a b e = cc

pub same_form : (a b : PatternForm) → ◌≡◌ {A = Option PatternForm} (Some a) (Some b) → a ≡ b
same_form a b e = cc

pub same_at : (p : MpiProgram) (c : ℕ) (a b : Call) → call_at p c ≡ Some a → call_at p c ≡ Some b → a ≡ b
same_at p c a b one other = same_call a b (sym one ∙ other)

-- no call is both a send and a finder
both : (kind : Kind ℕ) (message : Message) (pattern : Pattern) → message_of kind ≡ Some message → pattern_of kind ≡ Some pattern → ⊥
both (Wait operation) message pattern e f = absurd (cc)
both kind message pattern e f = absurd (cc)

-- what fits a call isn't what that call fits
pub not_both : (p : MpiProgram) (c x y : ℕ) → are_fit p c x ≡ true → are_fit p y c ≡ true → ⊥
not_both p c x y one other =
    let a = fit_of p c x one in
    let b = fit_of p y c other in
    let same : a.send ≡ b.finder = same_at p c a.send b.finder a.send_there b.finder_there in
    both b.finder.kind a.meet.own b.meet.wanted (subst (λ (z : Call). message_of z.kind ≡ Some a.meet.own) same a.meet.sends) b.meet.asks

-- no call fits itself
pub not_itself : (p : MpiProgram) (c : ℕ) → are_fit p c c ≡ true → ⊥
not_itself p c fit = not_both p c c c fit fit

-- all finders that one send fits are of one rank
pub one_receiver : (p : MpiProgram) (c x y : ℕ) → are_fit p c x ≡ true → are_fit p c y ≡ true → are_of_one_rank p y x ≡ true
one_receiver p c x y one other =
    let a = fit_of p c x one in
    let b = fit_of p c y other in
    let same : a.send ≡ b.send = same_at p c a.send b.send a.send_there b.send_there in
    let alike : ◌≡◌ {A = Option Message} (Some a.meet.own) (Some b.meet.own) = sym (subst (λ (z : Call). message_of z.kind ≡ Some a.meet.own) same a.meet.sends) ∙ b.meet.sends in
    let own : a.meet.own ≡ b.meet.own = cc in
    one_rank_made p y x b.finder a.finder b.finder_there a.finder_there
    (sym b.meet.there ∙ ap (λ (z : Message). z.destination) (sym own) ∙ a.meet.there)

-- what has no slot in one form is no send
no_message : (form other : PatternForm) (rank : ℕ) (message : Option Message) → slot_of_message form rank message ≡ None → slot_of_message other rank message ≡ None
no_message form other rank None none = refl
no_message form other rank (Some message) none = absurd (cc)

pub no_send_slot : (form other : PatternForm) (call : Call) → send_slot form call ≡ None → send_slot other call ≡ None
no_send_slot form other call none = no_message form other call.rank (message_of call.kind) none

message_there : (form : PatternForm) (rank q : ℕ) (message : Option Message) → slot_of_message form rank message ≡ Some q → (own : Message) × (message ≡ Some own)
message_there form rank q None there = absurd (cc)
message_there form rank q (Some message) there = (message, refl)

pattern_there : (rank q : ℕ) (pattern : Option Pattern) → slot_of_pattern rank pattern ≡ Some q → (own : Pattern) × (pattern ≡ Some own)
pattern_there rank q None there = absurd (cc)
pattern_there rank q (Some pattern) there = (pattern, refl)

-- nothing fits a send
pub send_fits : (p : MpiProgram) (form : PatternForm) (c y q : ℕ) (call : Call) → call_at p c ≡ Some call → send_slot form call ≡ Some q → are_fit p y c ≡ true → ⊥
send_fits p form c y q call here slot fit =
    let a = fit_of p y c fit in
    let same : call ≡ a.finder = same_at p c call a.finder here a.finder_there in
    let own = message_there form call.rank q (message_of call.kind) slot in
    both a.finder.kind own.0 a.meet.wanted (subst (λ (z : Call). message_of z.kind ≡ Some own.0) same own.1) a.meet.asks

-- a finder fits nothing
pub finder_fits : (p : MpiProgram) (c y q : ℕ) (call : Call) → call_at p c ≡ Some call → finder_slot call ≡ Some q → are_fit p c y ≡ true → ⊥
finder_fits p c y q call here slot fit =
    let a = fit_of p c y fit in
    let same : call ≡ a.send = same_at p c call a.send here a.send_there in
    let own = pattern_there call.rank q (pattern_of call.kind) slot in
    both a.send.kind a.meet.own own.0 a.meet.sends (subst (λ (z : Call). pattern_of z.kind ≡ Some own.0) same own.1)
