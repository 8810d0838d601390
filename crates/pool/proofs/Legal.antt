-- A run of calls has a legal history.
use Rattle.std.proofs.Common.{◌≡◌, List, [], ◌∷◌, ◌++◌, map, refl, sym, ap, ◌∙◌, subst, append_assoc}
use Rattle.std.proofs.lemmas.List.{append-nil}
use Rattle.pool.specs.declared.entry.LoggedCall.{LoggedCall}
use Rattle.pool.specs.declared.events.Event.{Event}
use Rattle.pool.specs.declared.events.Event.TheVariants.{Publish, Fetch, Close, Split, Found, Leave}
use Rattle.pool.specs.declared.events.Reply.{Reply}
use Rattle.pool.specs.declared.events.Reply.TheVariants as reply
use Rattle.pool.specs.Laws.{RunsAreLegal, IsAnswered, after_event, AreAnswered}
use Rattle.pool.specs.Calls.{after_call}
use Rattle.pool.specs.States.{PoolWithHistory, IsStep, AreLegalReplies, after_items, opening_pool, noted, publish_item, fetch_item, close_item, split_item, found_item, leave_item}
use Rattle.pool.proofs.Calls.{step_noted, publish_step, fetch_step, found_step}

noted_as : (k : PoolWithHistory) (item : LoggedCall) → IsStep k.held item → (found : LoggedCall) × IsStep k.held found × (after_call k item ≡ noted k found)
noted_as k item step = (item, step, step_noted k item step)

-- a call that is answered so is a step of its item
step_of : (k : PoolWithHistory) (event : Event) (given : Reply) → IsAnswered k.held event given → (item : LoggedCall) × IsStep k.held item × (after_event k event given ≡ noted k item)
step_of k (Publish worker batch) (reply.Publish given) is = noted_as k (publish_item worker batch.lines.items given) (publish_step k.held worker batch.lines.items given is.1 is.0)
step_of k (Fetch worker from) (reply.Fetch given) is = noted_as k (fetch_item worker from given) (fetch_step k.held worker from given is.1 is.0)
step_of k (Close worker leaf number) (reply.Close given) is = noted_as k (close_item worker leaf number given) is
step_of k (Split worker leaf variable) (reply.Split given) is = noted_as k (split_item worker leaf variable given) is
step_of k (Found worker steps) (reply.Found given) is = noted_as k (found_item worker steps.items given) (found_step k.held worker steps.items given is.1 is.0)
step_of k (Leave worker why) reply.Leave is = (leave_item worker why, tt, refl)
step_of k event given is = absurd is

history_from : (k : PoolWithHistory) (events : List Event) (pool : PoolWithHistory) (replies : List Reply) → AreAnswered k events pool replies
    → (items : List LoggedCall) × AreLegalReplies k.held items × (pool.held ≡ after_items k.held items) × (pool.history ≡ k.history ++ map (λ (item : LoggedCall). item.entry) items)
history_from k [] pool [] e = ([], tt, ap (λ (p : PoolWithHistory). p.held) e, ap (λ (p : PoolWithHistory). p.history) e ∙ sym (append-nil k.history))
history_from k [] pool (given ∷ replies) e = absurd e
history_from k (event ∷ events) pool [] e = absurd e
history_from k (event ∷ events) pool (given ∷ replies) (here, further) =
    let step = step_of k event given here in
    let rest = history_from (after_event k event given) events pool replies further in (
      step.0 ∷ rest.0,
      (step.1, subst (λ (p : PoolWithHistory). AreLegalReplies p.held rest.0) step.2 rest.1),
      rest.2 ∙ ap (λ (p : PoolWithHistory). after_items p.held rest.0) step.2,
      rest.3
          ∙ ap (λ (p : PoolWithHistory). p.history ++ map (λ (item : LoggedCall). item.entry) rest.0) step.2
          ∙ append_assoc k.history (step.0.entry ∷ []) (map (λ (item : LoggedCall). item.entry) rest.0),
    )

pub legal : RunsAreLegal
legal encoded tree events pool replies is =
    let found_items = history_from (opening_pool encoded tree) events pool replies is in
    (found_items.0, record { entries = found_items.3; run = found_items.1; ends = found_items.2 })
