-- Where nobody sends what the loose entries speak of, the phase is sealed.
use Rattle.std.proofs.Common.{◌≡◌, ℕ, ◌<◌, ◌⊎◌, inl, inr, Bool, true, false, [], ◌∷◌, Option, Some, None, is_some, refl, sym, ap, ◌∙◌, subst}
use Rattle.std.proofs.lemmas.Bool.{eqb-true}
use Rattle.callorder.specs.declared.calls.Call.{Call}
use Rattle.callorder.specs.Calls.{pattern_of, covers, both_hold, fits}
use Rattle.callorder.specs.Programs.{MpiProgram}
use Rattle.semantics.specs.Machine.{opening, after_all, is_matched}
use Rattle.races.specs.Races.{names_source}
use Rattle.phases.proofs.Counting.{Fit, fit_parts}
use Rattle.phases.proofs.Clean.{both_ways}
use Rattle.sealing.specs.Laws.{NoLooseSendSeals}
use Rattle.sealing.specs.Sealing.{IsFoundBeforeFinish, IsUntold, loose_of}
use Rattle.sealing.proofs.Finishing.{finish_tells}

-- two calls that fit, as the only ones of a program
fit_of : (p : MpiProgram) (a b : Call) → both_hold fits (Some a) (Some b) ≡ true → Fit a b
fit_of p a b fit = fit_parts (record { policy = p.policy; ranks = p.ranks; calls = a ∷ b ∷ [] }) 0 1 a b refl refl fit

-- what names no source takes messages of any
any_source : (source : Option ℕ) → is_some source ≡ false → source ≡ None
any_source None e = refl
any_source (Some rank) e = absurd (cc)

tag_fits : (wanted : Option ℕ) (tag : ℕ) → covers wanted tag ≡ true → (wanted ≡ None) ⊎ (wanted ≡ Some tag)
tag_fits None tag e = inl refl
tag_fits (Some wanted) tag e = inr (ap Some (eqb-true wanted tag e))

pub no_loose_send_seals : NoLooseSendSeals
no_loose_send_seals p following is is_following ranks never f s finder send at_f at_s fit = by (names_source (pattern_of finder.kind)) refl
  where
    g : Fit send finder
    g = fit_of p send finder fit

    -- else the entry of the rank and the finder is loose, and the send is one that it stands for
    told : g.pattern.source ≡ None → IsUntold p send.rank f → ⊥
    told any untold =
        never (loose_of send.rank finder g.pattern)
        (record {
          f = f;
          rank = send.rank;
          finder = finder;
          pattern = g.pattern;
          is_finder = record { there = at_f; finds = g.finds; any = any };
          in_range = subst (λ (n : ℕ). send.rank < n) ranks (is_following.in_range s send at_s).own;
          is = refl;
          untold = untold;
        })
        (record {
          place = s;
          call = send;
          message = g.message;
          there = at_s;
          sends = g.sends;
          source = refl;
          destination = g.to;
          communicator = g.on;
          tag = tag_fits g.pattern.tag g.message.tag g.tag;
        })

    found : g.pattern.source ≡ None → IsFoundBeforeFinish p f send.rank
    found any steps run finished = now (is_matched (after_all (opening p) steps) f) refl
      where
        now : (q : Bool) → is_matched (after_all (opening p) steps) f ≡ q → is_matched (after_all (opening p) steps) f ≡ true
        now true e = e
        now false e =
            absurd (told any (λ e' knows sure justified tells.
            both_ways (is_matched (after_all (opening p) steps) f) (finish_tells p e' knows send.rank f is sure justified tells steps run finished) e))

    by : (q : Bool) → names_source (pattern_of finder.kind) ≡ q → (names_source (pattern_of finder.kind) ≡ true) ⊎ IsFoundBeforeFinish p f send.rank
    by true e = inl e
    by false e = inr (found (any_source g.pattern.source (sym (ap names_source g.finds) ∙ e)))
