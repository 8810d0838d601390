-- Which finders a send has to be looked at for.
use Rattle.std.proofs.Common.{◌≡◌, ℕ, zero, suc, ◌+◌, ◌<◌, ◌≤◌, ◌⊎◌, inl, inr, Bool, true, false, ◌||◌, ◌&&◌, ◌==◌, length, slice_get, slice_index, List, Option, Some, None, refl, sym, ap, ◌∙◌, subst, arith}
use Rattle.std.proofs.lemmas.Bool.{cases_lt, eqb-true}
use Rattle.std.proofs.lemmas.Option.{slice_get_within}
use Rattle.calltext.proofs.Conjunctions.{and_both, and_true}
use Rattle.calltext.specs.Grammar.{long}
use Rattle.callorder.specs.declared.calls.Call.{Call}
use Rattle.callorder.specs.ProgramRules.{IsProgramWithin}
use Rattle.callorder.specs.Programs.{MpiProgram, call_at, are_fit, are_of_one_rank}
use Rattle.callorder.specs.declared.calls.Message.{Message}
use Rattle.callorder.specs.declared.calls.Pattern.{Pattern}
use Rattle.callorder.specs.Calls.{both_hold, covers, fits, fits_between, pattern_of}
use Rattle.std.specs.Global.{Vec}
use Rattle.semantics.specs.Machine.{Configuration, is_issued, partner_of}
use Rattle.semantics.proofs.RankOrder.{one_rank_between}
use Rattle.races.specs.Blocks.{Blocks, HasFellow}
use Rattle.races.specs.Tells.{Table, IsJustified, tells_return_call}
use Rattle.races.proofs.Steps.{issued_within, within_issued, one_rank, one_rank_made}
use Rattle.clocks.specs.parts.Clocks.{HasEarlier, IsTaken, IsChecked, rounds}
use Rattle.clocks.specs.Clocks.{IsNoRace, ShowsAll}
use Rattle.clocks.specs.parts.Finders.{AreNoRaces, group_at, group_of, group_of_call, group_of_pattern, IsListing, IsOfAnyTag, IsParting, Sends}
use Rattle.clocks.proofs.Levels.{or_left, rounds_within}

-- what is known where a call is issued is known at each later call of its rank, some rounds later
next_rank : (p : MpiProgram) (e : Configuration) (base : Table) (n b f : ℕ) → are_of_one_rank p b (suc b) ≡ true → rounds p e base n b f ≡ true → rounds p e base (suc n) (suc b) f ≡ true
next_rank p e base n b f one h =
    and_both (are_of_one_rank p b (suc b)) (rounds p e base n b f || tells_return_call p e (rounds p e base n) b (call_at p b) f) one
    (or_left (rounds p e base n b f) (tells_return_call p e (rounds p e base n) b (call_at p b) f) h)

pub same_call : (p : MpiProgram) (c : ℕ) (x y : Call) → call_at p c ≡ Some x → call_at p c ≡ Some y → x ≡ y
same_call p c x y a b = cc (a, b)

from_ends : (p : MpiProgram) (c b : ℕ) → IsProgramWithin long p → c ≤ b → are_of_one_rank p c (suc b) ≡ true → are_of_one_rank p c b ≡ true
from_ends p c b is below one =
    let first = one_rank p c (suc b) one in
    let second = one_rank p b (suc b) (one_rank_between long p is c b (suc b) below (omega arith) one) in
    one_rank_made p c b first.0 second.0 first.2 second.2 (first.4 ∙ ap (λ (z : Call). z.rank) (same_call p (suc b) first.1 second.1 first.3 second.3) ∙ sym second.4)

pub known_later : (p : MpiProgram) (e : Configuration) (base : Table) (c o f : ℕ) → IsProgramWithin long p → c ≤ o → are_of_one_rank p c o ≡ true → rounds p e base c c f ≡ true → rounds p e base o o f ≡ true
known_later p e base c zero f is le one h = let same : c ≡ zero = omega (arith, le) in subst (λ (z : ℕ). rounds p e base z z f ≡ true) same h
known_later p e base c (suc b) f is le one h =
    elim (cases_lt c (suc b)) [
      | inr ge ↦ let same : c ≡ suc b = omega (arith, le, ge) in subst (λ (z : ℕ). rounds p e base z z f ≡ true) same h
      | inl lt ↦
          let below : c ≤ b = omega (arith, lt) in
          let to_b : are_of_one_rank p c b ≡ true = from_ends p c b is below one in
          let step : are_of_one_rank p b (suc b) ≡ true = one_rank_between long p is c b (suc b) below (omega arith) one in
          next_rank p e base b b f step (known_later p e base c b f is below to_b h)
    ]

more_rounds : (p : MpiProgram) (e : Configuration) (base : Table) (n m c f : ℕ) → IsJustified p e base → n ≤ m → rounds p e base n c f ≡ true → rounds p e base m c f ≡ true
more_rounds p e base n zero c f justified le h = let same : n ≡ zero = omega (arith, le) in subst (λ (z : ℕ). rounds p e base z c f ≡ true) same h
more_rounds p e base n (suc m) c f justified le h =
    elim (cases_lt n (suc m)) [
      | inr ge ↦ let same : n ≡ suc m = omega (arith, le, ge) in subst (λ (z : ℕ). rounds p e base z c f ≡ true) same h
      | inl lt ↦ rounds_within p e base m justified c f (more_rounds p e base n m c f justified (omega (arith, lt)) h)
    ]

-- what a send shows, some rounds later
abbrev pub Later : MpiProgram → Blocks → Configuration → Configuration → Table → ℕ → Type 0
Later p block e sure base other =
    (finder own : ℕ) → partner_of e finder ≡ Some own → are_fit p own finder ≡ true → are_fit p other finder ≡ true → (are_of_one_rank p own other ≡ false) ⊎ HasFellow p block finder
    → ((taker : ℕ) → partner_of e other ≡ Some taker → (taker ≤ finder) ⊎ (block taker ≡ block finder) → ⊥) → rounds p sure base other other finder ≡ true

apart_from : (p : MpiProgram) (own earlier other : ℕ) → are_of_one_rank p earlier other ≡ true → are_of_one_rank p own other ≡ false → are_of_one_rank p own earlier ≡ false
apart_from p own earlier other one apart = by (are_of_one_rank p own earlier) refl
  where
    by : (b : Bool) → are_of_one_rank p own earlier ≡ b → b ≡ false
    by false is = refl
    by true is =
        let a = one_rank p own earlier is in
        let b = one_rank p earlier other one in
        let both : are_of_one_rank p own other ≡ true = one_rank_made p own other a.0 b.1 a.2 b.3 (a.4 ∙ ap (λ (z : Call). z.rank) (same_call p earlier a.1 b.0 a.3 b.2) ∙ b.4) in
        absurd (cc (both, apart))

apart_or : (p : MpiProgram) (block : Blocks) (own earlier other finder : ℕ) → are_of_one_rank p earlier other ≡ true → (are_of_one_rank p own other ≡ false) ⊎ HasFellow p block finder → (are_of_one_rank p own earlier ≡ false) ⊎ HasFellow p block finder
apart_or p block own earlier other finder one (inl apart) = inl (apart_from p own earlier other one apart)
apart_or p block own earlier other finder one (inr w) = inr w

-- an earlier call of the rank of an issued one is issued
issued_earlier : (p : MpiProgram) (e : Configuration) (earlier other : ℕ) → earlier < other → are_of_one_rank p earlier other ≡ true → is_issued p e other ≡ true → is_issued p e earlier ≡ true
issued_earlier p e earlier other below one issued =
    let w = one_rank p earlier other one in
    let within : other < slice_index e.next w.1.rank = issued_within p e other w.1 w.3 issued in
    let there : other < slice_index e.next w.0.rank = subst (λ (z : ℕ). other < slice_index e.next z) (sym w.4) within in
    within_issued p e earlier w.0 w.2 (omega (arith, there, below))

all_later : (p : MpiProgram) (block : Blocks) (e sure : Configuration) (base : Table) (bound other : ℕ) → IsProgramWithin long p → IsJustified p sure base → ((it : ℕ) → IsChecked p block e base it) → other < bound → is_issued p e other ≡ true → Later p block e sure base other
all_later p block e sure base zero other is justified checked lt issued finder own found mine fit apart later = absurd (omega (arith, lt))
all_later p block e sure base (suc bound) other is justified checked lt issued finder own found mine fit apart later =
    elim (checked other issued finder own found mine) [
      | inl none ↦ more_rounds p sure base zero other other finder justified (omega arith) (none fit apart later)
      | inr w ↦
          known_later p sure base w.earlier other finder is (omega (arith, w.before)) w.one
          (all_later p block e sure base bound w.earlier is justified checked (omega (arith, w.before, lt)) (issued_earlier p e w.earlier other w.before w.one issued) finder own found mine w.fit (apart_or p block own w.earlier other finder w.one apart) w.later)
    ]

pub send_there : (o u : Option Call) → both_hold fits o u ≡ true → (x : Call) × (o ≡ Some x)
send_there None u fit = absurd (cc)
send_there (Some x) u fit = (x, refl)

-- each send that is checked shows it all, some rounds later
pub checked_shows : (p : MpiProgram) (block : Blocks) (e sure : Configuration) (base : Table) → IsProgramWithin long p → IsJustified p sure base → ((it : ℕ) → IsChecked p block e base it) → ShowsAll p block e (rounds p sure base (length p.calls))
checked_shows p block e sure base is justified checked finder own other found mine issued fit apart later =
    let w = send_there (call_at p other) (call_at p finder) fit in
    let within : other < length p.calls = slice_get_within p.calls other w.0 w.1 in
    more_rounds p sure base other (length p.calls) other finder justified (omega (arith, within))
    (all_later p block e sure base (length p.calls) other is justified checked within issued finder own found mine fit apart later)

pub one_more_send : (p : MpiProgram) (block : Blocks) (e : Configuration) (knows : Table) (n : ℕ) → ((other : ℕ) → other < n → IsChecked p block e knows other) → IsChecked p block e knows n → (other : ℕ) → other < n + 1 → IsChecked p block e knows other
one_more_send p block e knows n h last other lt =
    elim (cases_lt other n) [
      | inl below ↦ h other below
      | inr ge ↦ let at : n ≡ other = omega (arith, ge, lt) in subst (λ (z : ℕ). IsChecked p block e knows z) at last
    ]

pub all_checked : (p : MpiProgram) (block : Blocks) (e : Configuration) (knows : Table) (n : ℕ) → length p.calls ≤ n → ((other : ℕ) → other < n → IsChecked p block e knows other) → (other : ℕ) → IsChecked p block e knows other
all_checked p block e knows n all h other issued f own found mine =
    elim (cases_lt other n) [
      | inl below ↦ h other below issued f own found mine
      | inr ge ↦
          inl (λ fit apart later.
          let w = send_there (call_at p other) (call_at p f) fit in
          let within : other < length p.calls = slice_get_within p.calls other w.0 w.1 in
          absurd (omega (arith, within, ge, all)))
    ]

-- the send doesn't race for the finders of the list from one place up to another
abbrev pub AreLookedAt : MpiProgram → Blocks → Configuration → Table → List ℕ → ℕ → ℕ → ℕ → Type 0
AreLookedAt p block e knows listed other low high =
    (i f own : ℕ) → low ≤ i → i < high → slice_get listed i ≡ Some f → partner_of e f ≡ Some own → IsNoRace p block e knows f own other

pub one_more_place : (p : MpiProgram) (block : Blocks) (e : Configuration) (knows : Table) (listed : List ℕ) (other low n : ℕ) → AreLookedAt p block e knows listed other low n → ((f own : ℕ) → slice_get listed n ≡ Some f → partner_of e f ≡ Some own → IsNoRace p block e knows f own other) → AreLookedAt p block e knows listed other low (n + 1)
one_more_place p block e knows listed other low n h last i f own from lt there =
    elim (cases_lt i n) [
      | inl below ↦ h i f own from below there
      | inr ge ↦ let at : i ≡ n = omega (arith, ge, lt) in last f own (subst (λ (z : ℕ). slice_get listed z ≡ Some f) at there)
    ]

-- A finder of a group from one call up to another is looked at, or it is known to have found.
pub looked_between : (p : MpiProgram) (block : Blocks) (e : Configuration) (knows : Table) (listed : List ℕ) (other first end low high n past : ℕ) → IsParting listed first low → IsParting listed end high → high ≤ past → ((i f : ℕ) → low ≤ i → i < n → slice_get listed i ≡ Some f → knows other f ≡ true) → AreLookedAt p block e knows listed other n past → AreNoRaces p block e listed first end other knows
looked_between p block e knows listed other first end low high n past at_first at_end all known looked i f own there from below found =
    elim (cases_lt i low) [
      | inl early ↦ absurd (let lt : f < first = at_first.before i f early there in omega (arith, lt, from))
      | inr le ↦
          elim (cases_lt i n) [
            | inl told ↦ λ fit apart later. known i f le told there
            | inr ge ↦
                elim (cases_lt i high) [
                  | inl in_range ↦ looked i f own ge (omega (arith, in_range, all)) there found
                  | inr late ↦ absurd (let le : end ≤ f = at_end.behind i f late there in omega (arith, le, below))
                ]
          ]
    ]

-- ---- the two groups of a send

-- what a finder that the send fits asks for
pub record Asks (p : MpiProgram) (groups : ℕ) (message : Message) (f : ℕ) : Type 0 where
  pub call : Call
  pub there : call_at p f ≡ Some call
  pub pattern : Pattern
  pub asks : pattern_of call.kind ≡ Some pattern
  pub group : group_of_call groups (call_at p f) ≡ group_of groups message.destination message.communicator pattern.tag
  pub tag : (pattern.tag ≡ None) ⊎ (pattern.tag ≡ Some message.tag)

tag_of : (wanted : Option ℕ) (tag : ℕ) → covers wanted tag ≡ true → (wanted ≡ None) ⊎ (wanted ≡ Some tag)
tag_of None tag h = inl refl
tag_of (Some wanted) tag h = inr (ap (λ (z : ℕ). Some z) (eqb-true wanted tag h))

asked_by : (p : MpiProgram) (groups other f : ℕ) (send finder : Call) (message : Message) (b : Option Pattern) → call_at p f ≡ Some finder → pattern_of finder.kind ≡ b → fits_between send.rank (Some message) finder.rank b ≡ true → Asks p groups message f
asked_by p groups other f send finder message None there is fit = absurd (cc)
asked_by p groups other f send finder message (Some b) there is fit =
    let three = and_true (message.destination == finder.rank && message.communicator == b.communicator && covers b.source send.rank) (covers b.tag message.tag) fit in
    let two = and_true (message.destination == finder.rank && message.communicator == b.communicator) (covers b.source send.rank) three.0 in
    let one = and_true (message.destination == finder.rank) (message.communicator == b.communicator) two.0 in
    let way : message.destination ≡ finder.rank = eqb-true message.destination finder.rank one.0 in
    let comm : message.communicator ≡ b.communicator = eqb-true message.communicator b.communicator one.1 in
    record {
      call = finder;
      there = there;
      pattern = b;
      asks = is;
      group =
          ap (group_of_call groups) there ∙ ap (group_of_pattern groups finder.rank) is
          ∙ ap (λ (z : ℕ). group_of groups z b.communicator b.tag) (sym way)
          ∙ ap (λ (z : ℕ). group_of groups message.destination z b.tag) (sym comm);
      tag = tag_of b.tag message.tag three.1;
    }

pub asks_of : (p : MpiProgram) (groups other f : ℕ) (message : Message) → Sends p other message → are_fit p other f ≡ true → Asks p groups message f
asks_of p groups other f message w fit = by (call_at p f) refl
  where
    by : (o : Option Call) → call_at p f ≡ o → Asks p groups message f
    by None is = absurd (let h = subst (λ (x : Option Call). both_hold fits x (call_at p f) ≡ true) w.there fit in let g = subst (λ (x : Option Call). both_hold fits (Some w.call) x ≡ true) is h in cc (g))
    by (Some finder) is =
        let h = subst (λ (x : Option Call). both_hold fits x (call_at p f) ≡ true) w.there fit in
        let g = subst (λ (x : Option Call). both_hold fits (Some w.call) x ≡ true) is h in
        asked_by p groups other f w.call finder message (pattern_of finder.kind) is refl
        (subst (λ (x : Option Message). fits_between w.call.rank x finder.rank (pattern_of finder.kind) ≡ true) w.sent g)

-- a send that a finder takes is checked where it is looked at between the four bounds
finder_checked : (p : MpiProgram) (block : Blocks) (e : Configuration) (knows : Table) (other f own first start end last low high : ℕ) → (f < first → HasEarlier p block e other f) → (f < start → ⊥) → (end ≤ f → IsTaken block e other f) → (last ≤ f → ⊥) → ((n : ℕ) → first ≤ n → start ≤ n → low ≤ n) → ((n : ℕ) → n < end → n < last → n < high) → (low ≤ f → f < high → IsNoRace p block e knows f own other) → IsNoRace p block e knows f own other ⊎ HasEarlier p block e other f
finder_checked p block e knows other f own first start end last low high a b c d from to looked =
    elim (cases_lt f first) [
      | inl lt ↦ inr (a lt)
      | inr ge ↦
          elim (cases_lt f start) [
            | inl lt ↦ absurd (b lt)
            | inr above ↦
                elim (cases_lt f end) [
                  | inr past ↦ inl (λ fit apart later. absurd (let w = c past in later w.taker w.found w.which))
                  | inl before ↦
                      elim (cases_lt f last) [
                        | inr past ↦ absurd (d past)
                        | inl below ↦ inl (looked (from f ge above) (to f before below))
                      ]
                ]
          ]
    ]

-- the finder stands in the group that it asks for, or no send races for it
in_group : (p : MpiProgram) (block : Blocks) (e : Configuration) (knows : Table) (groups : List (Vec ℕ)) (other f own low high g : ℕ) → IsListing p block groups → group_of_call (length groups) (call_at p f) ≡ g → AreNoRaces p block e (group_at groups g) low high other knows → partner_of e f ≡ Some own → are_fit p own f ≡ true → low ≤ f → f < high → IsNoRace p block e knows f own other
in_group p block e knows groups other f own low high g listing is looked found mine from below fit apart later =
    elim (listing.each f) [
      | inl never ↦ absurd (never own other mine fit apart)
      | inr w ↦ looked w.place f own (subst (λ (z : ℕ). slice_get (group_at groups z) w.place ≡ Some f) is w.there) from below found fit apart later
    ]

-- a send is checked where it is looked at for the finders of its tag, and for those of any
pub checked_by : (p : MpiProgram) (block : Blocks) (e : Configuration) (knows : Table) (groups : List (Vec ℕ)) (other : ℕ) (message : Message) (named any first first_any start end last low low_any high : ℕ) → IsListing p block groups → Sends p other message → named ≡ group_of (length groups) message.destination message.communicator (Some message.tag) → any ≡ group_of (length groups) message.destination message.communicator None → ((f : ℕ) → f < first → are_fit p other f ≡ true → HasEarlier p block e other f) → ((f : ℕ) → f < first_any → IsOfAnyTag p f → are_fit p other f ≡ true → HasEarlier p block e other f) → ((f : ℕ) → f < start → are_fit p other f ≡ true → ⊥) → ((f : ℕ) → end ≤ f → are_fit p other f ≡ true → IsTaken block e other f) → ((f : ℕ) → last ≤ f → are_fit p other f ≡ true → ⊥) → ((n : ℕ) → first ≤ n → start ≤ n → low ≤ n) → ((n : ℕ) → first_any ≤ n → start ≤ n → low_any ≤ n) → ((n : ℕ) → n < end → n < last → n < high) → AreNoRaces p block e (group_at groups named) low high other knows → AreNoRaces p block e (group_at groups any) low_any high other knows → IsChecked p block e knows other
checked_by p block e knows groups other message named any first first_any start end last low low_any high listing sends is_named is_any a a_any b c d from from_any to looked looked_any issued f own found mine = by (are_fit p other f) refl
  where
    by : (fit : Bool) → are_fit p other f ≡ fit → IsNoRace p block e knows f own other ⊎ HasEarlier p block e other f
    by false is = inl (λ fit apart later. absurd (cc (is, fit)))
    by true is =
        let w : Asks p (length groups) message f = asks_of p (length groups) other f message sends is in
        elim w.tag [
          | inl none ↦
              finder_checked p block e knows other f own first_any start end last low_any high
              (λ lt. a_any f lt (record { call = w.call; there = w.there; pattern = w.pattern; asks = w.asks; any = none }) is) (λ lt. b f lt is) (λ ge. c f ge is) (λ ge. d f ge is) from_any to
              (in_group p block e knows groups other f own low_any high any listing (w.group ∙ ap (group_of (length groups) message.destination message.communicator) none ∙ sym is_any) looked_any found mine)
          | inr one ↦
              finder_checked p block e knows other f own first start end last low high
              (λ lt. a f lt is) (λ lt. b f lt is) (λ ge. c f ge is) (λ ge. d f ge is) from to
              (in_group p block e knows groups other f own low high named listing (w.group ∙ ap (group_of (length groups) message.destination message.communicator) one ∙ sym is_named) looked found mine)
        ]
