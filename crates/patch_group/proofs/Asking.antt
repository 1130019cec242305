-- What lists of asks keep true of groups.
use Rattle.std.proofs.Common.{◌≡◌, ℕ, ◌⊎◌, inl, inr, Bool, true, false, List, [], ◌∷◌, ◌++◌, refl, sym, ap, subst, Option, Some, None}
use Rattle.std.proofs.lemmas.Bool.{cases_Bool, both_ways}
use Rattle.patch_model.specs.declared.patches.Undo.{Undo}
use Rattle.patch_model.specs.declared.refusals.Refusal.{Refusal}
use Rattle.patch_model.specs.declared.refusals.RefusalKind.TheVariants as kind
use Rattle.patch_model.specs.Refusing.{bare}
use Rattle.patch_model.specs.Execution.{Execution, extended}
use Rattle.patch_model.specs.Step.{Step}
use Rattle.patch_model.specs.Step as step
use Rattle.patch_model.specs.State.{entries_of, state_of, after_step}
use Rattle.patch_model.specs.Orderly.{IsNumbered}
use Rattle.patch_cache.specs.Asks.{Ask as CacheAsk, Answer as CacheAnswer, after, extended_by, step_for}
use Rattle.patch_cache.specs.Asks as cache
use Rattle.patch_plans.specs.Groups.{Groups, named, with_patch}
use Rattle.patch_group.specs.Asks.{Ask, Answer, Part, Plain, Patch, Group, Engage, Disengage, Depend, Close, Pending, GroupMade, Done, Count, Refused, unless, is_refused, IsGroupAnswer, IsGroupGivenUp, IsGroupGivenUpBy, IsPatchGivenUp, after_parts, part_of, parts, run_after, groups_after, groups_after_all}
use Rattle.patch_plans.specs.Order.{AreGroupsOf}
use Rattle.patch_group.specs.Promise.{AsksKeep}
use Rattle.patch_plans.specs.Ordering.{steps_keep, patches_keep, begun_keeps, engaged_keeps, disengaged_keeps, ordered_keeps, closed_keeps}

-- a call that isn't refused has no cause against it
pub accepted : (cause : Option Refusal) (told answer : Answer) → answer ≡ unless cause told → is_refused answer ≡ false → cause ≡ None
accepted None told answer e f = refl
accepted (Some cause) told answer e f = absurd (both_ways _ f (ap is_refused e))

pub refusal : (answer : Answer) (cause : Refusal) → answer ≡ Refused cause → is_refused answer ≡ false → ⊥
refusal answer cause e f = both_ways _ f (ap is_refused e)

-- What is given up of a cache that has all its blocks is given up of any.
pub given_up_by : (whole : Bool) (run : Execution) (gs : Groups) (ask : Ask) (answer : Answer) → IsGroupGivenUp run gs ask answer → IsGroupGivenUpBy whole run gs ask answer
given_up_by true run gs ask answer given = given
given_up_by false run gs (Plain ask) (Plain answer) given = inl given
given_up_by false run gs (Plain ask) (GroupMade group) given = absurd given
given_up_by false run gs (Plain ask) Done given = absurd given
given_up_by false run gs (Plain ask) (Count count) given = absurd given
given_up_by false run gs (Plain ask) (Refused cause) given = absurd given
given_up_by false run gs (Patch writer block start bytes others undo) answer given = inl given
given_up_by false run gs Group answer given = given
given_up_by false run gs (Engage writer group) answer given = given
given_up_by false run gs (Disengage writer group) answer given = given
given_up_by false run gs (Depend group on) answer given = given
given_up_by false run gs (Close group) answer given = given
given_up_by false run gs (Pending group) answer given = given

pub right_by : (whole : Bool) (run : Execution) (gs : Groups) (ask : Ask) (answer : Answer) → IsGroupAnswer run gs ask answer ⊎ IsGroupGivenUp run gs ask answer
    → IsGroupAnswer run gs ask answer ⊎ IsGroupGivenUpBy whole run gs ask answer
right_by whole run gs ask answer (inl right) = inl right
right_by whole run gs ask answer (inr given) = inr (given_up_by whole run gs ask answer given)

-- a patch that is given up is refused by the cache
pub given_up_told : (whole : Bool) (run : Execution) (ask : CacheAsk) (answer : Answer) → IsPatchGivenUp whole run ask answer → (cause : Refusal) × (answer ≡ Plain (cache.Refused cause))
given_up_told true run ask answer given = (bare kind.OutOfMemory, given)
given_up_told false run ask answer (inl given) = (bare kind.OutOfMemory, given)
given_up_told false run ask (Plain answer) (inr missed) = elim missed.gives_up [
  | inl memory ↦ (bare kind.OutOfMemory, ap Plain memory)
  | inr fault ↦ (bare kind.Fault, ap Plain fault)
]
given_up_told false run ask (GroupMade group) (inr missed) = absurd missed
given_up_told false run ask Done (inr missed) = absurd missed
given_up_told false run ask (Count count) (inr missed) = absurd missed
given_up_told false run ask (Refused cause) (inr missed) = absurd missed

-- Parts.

pub after_append : (run : Execution) (ps qs : List Part) → after_parts run (ps ++ qs) ≡ after_parts (after_parts run ps) qs
after_append run [] qs = refl
after_append run (p ∷ ps) qs = after_append (after run p.0 p.1) ps qs

made_same : (cause : Option Refusal) (n m : ℕ) → cache.Made n ≡ cache.unless cause (cache.Made m) → n ≡ m
made_same None n m e = cc
made_same (Some cause) n m e = absurd (cc e)

-- an ask of the cache leaves the groups as they are
pub groups_plain : (gs : Groups) (ask : CacheAsk) (answer : CacheAnswer) → groups_after gs (Plain ask) (Plain answer) ≡ gs
groups_plain gs ask answer = elim (cases_Bool (cache.is_refused answer)) [ inl t ↦ rw t refl | inr f ↦ rw f refl ]

module _ (ext : (run : Execution) (step : Step) → state_of (extended run step) ≡ after_step (state_of run) step) (numbered : (run : Execution) → IsNumbered (entries_of run)) where
  plain_keeps : (run : Execution) (gs : Groups) (ask : CacheAsk) (answer : CacheAnswer) → AreGroupsOf run gs → AreGroupsOf (after run ask answer) gs
  plain_keeps run gs ask answer a = elim (cases_Bool (cache.is_refused answer)) [
    | inl t ↦ rw t a
    | inr f ↦ rw f (stepped (step_for ask))
  ]
    where
      stepped : (step : Option Step) → AreGroupsOf (extended_by run step) gs
      stepped None = a
      stepped (Some step) = steps_keep ext run gs step a

  -- a patch of a writer
  patch_keeps : (whole : Bool) (run : Execution) (gs : Groups) (writer block start : ℕ) (bytes others : List ℕ) (undo : Undo) (answer : CacheAnswer) → AreGroupsOf run gs
      → IsGroupAnswer run gs (Patch writer block start bytes others undo) (Plain answer) ⊎ IsGroupGivenUpBy whole run gs (Patch writer block start bytes others undo) (Plain answer)
      → AreGroupsOf (run_after run gs (Patch writer block start bytes others undo) (Plain answer)) (groups_after gs (Patch writer block start bytes others undo) (Plain answer))
  patch_keeps whole run gs writer block start bytes others undo (cache.Made n) a (inl right) =
      subst (λ m. AreGroupsOf (extended run (step.Create block start bytes (named gs (Some writer) others) undo)) (with_patch gs (Some writer) m)) (sym (made_same _ n _ right))
      (patches_keep ext numbered run gs (Some writer) block start bytes others undo a)
  patch_keeps whole run gs writer block start bytes others undo (cache.Made n) a (inr given) =
      let told = (given_up_told whole run (cache.Create block start bytes (named gs (Some writer) others) undo) (Plain (cache.Made n)) given).1 in absurd (cc)
  patch_keeps whole run gs writer block start bytes others undo (cache.Merged name) a h = steps_keep ext run gs (step.Create block start bytes (named gs (Some writer) others) undo) a
  patch_keeps whole run gs writer block start bytes others undo (cache.Sent at numbers image) a h = steps_keep ext run gs (step.Create block start bytes (named gs (Some writer) others) undo) a
  patch_keeps whole run gs writer block start bytes others undo (cache.Landed at numbers) a h = steps_keep ext run gs (step.Create block start bytes (named gs (Some writer) others) undo) a
  patch_keeps whole run gs writer block start bytes others undo (cache.Seen without cached) a h = steps_keep ext run gs (step.Create block start bytes (named gs (Some writer) others) undo) a
  patch_keeps whole run gs writer block start bytes others undo (cache.Refused cause) a h = a

  pub ask_keeps : (whole : Bool) (run : Execution) (gs : Groups) (ask : Ask) (answer : Answer) → AreGroupsOf run gs → IsGroupAnswer run gs ask answer ⊎ IsGroupGivenUpBy whole run gs ask answer
      → AreGroupsOf (run_after run gs ask answer) (groups_after gs ask answer)
  ask_keeps whole run gs (Plain ask) (Plain answer) a h = subst (AreGroupsOf (after run ask answer)) (sym (groups_plain gs ask answer)) (plain_keeps run gs ask answer a)
  ask_keeps whole run gs (Plain ask) (GroupMade g) a h = a
  ask_keeps whole run gs (Plain ask) Done a h = a
  ask_keeps whole run gs (Plain ask) (Count n) a h = a
  ask_keeps whole run gs (Plain ask) (Refused c) a h = a
  ask_keeps whole run gs (Patch writer block start bytes others undo) (Plain answer) a h = patch_keeps whole run gs writer block start bytes others undo answer a h
  ask_keeps whole run gs (Patch writer block start bytes others undo) (GroupMade g) a h = a
  ask_keeps whole run gs (Patch writer block start bytes others undo) Done a h = a
  ask_keeps whole run gs (Patch writer block start bytes others undo) (Count n) a h = a
  ask_keeps whole run gs (Patch writer block start bytes others undo) (Refused c) a h = a
  ask_keeps whole run gs Group answer a h = elim (cases_Bool (is_refused answer)) [ inl t ↦ rw t a | inr f ↦ rw f (begun_keeps run gs a) ]
  ask_keeps whole run gs (Engage writer group) answer a h = elim (cases_Bool (is_refused answer)) [
    | inl t ↦ rw t a
    | inr f ↦ rw f (elim h [ inl e ↦ engaged_keeps run gs writer group a (accepted _ _ _ e f) | inr e ↦ absurd (refusal _ _ e.0 f) ])
  ]
  ask_keeps whole run gs (Disengage writer group) answer a h = elim (cases_Bool (is_refused answer)) [ inl t ↦ rw t a | inr f ↦ rw f (disengaged_keeps run gs writer group a) ]
  ask_keeps whole run gs (Depend group on) answer a h = elim (cases_Bool (is_refused answer)) [
    | inl t ↦ rw t a
    | inr f ↦ rw f (elim h [ inl e ↦ ordered_keeps run gs group on a (accepted _ _ _ e f) | inr e ↦ absurd (refusal _ _ e.0 f) ])
  ]
  ask_keeps whole run gs (Close group) answer a h = elim (cases_Bool (is_refused answer)) [ inl t ↦ rw t a | inr f ↦ rw f (closed_keeps run gs group a) ]
  ask_keeps whole run gs (Pending group) answer a h = elim (cases_Bool (is_refused answer)) [ inl t ↦ rw t a | inr f ↦ rw f a ]

  pub asks_keep : AsksKeep
  asks_keep run gs [] [] a h = a
  asks_keep run gs [] (answer ∷ answers) a h = absurd h
  asks_keep run gs (ask ∷ asks) [] a h = a
  asks_keep run gs (ask ∷ asks) (answer ∷ answers) a h =
      let now = groups_after gs ask answer in
      subst (λ r. AreGroupsOf r (groups_after_all now asks answers)) (sym (after_append run (part_of gs ask answer) (parts now asks answers)))
      (asks_keep (run_after run gs ask answer) now asks answers (ask_keeps true run gs ask answer a h.0) h.1)
