-- The promise of groups, from what each ask keeps and from chains.
use Rattle.std.proofs.Common.{◌≡◌, true, length, refl, sym, subst, arith}
use Rattle.std.proofs.lemmas.Map.Made.{IsDistinct-from_AllPairs}
use Rattle.std.proofs.lemmas.Map.Steps.{length-le_from_distinct_below}
use Rattle.std.proofs.lemmas.Bool.{eqb-true, eq-eqb, or_left}
use Rattle.std.proofs.lemmas.Bool.Decides.{Decides-eqb}
use Rattle.std.specs.Prelude.{◌==◌}
use Rattle.patch_model.specs.Entry.{is_among}
use Rattle.patch_model.specs.Execution.{Execution, extended}
use Rattle.patch_model.specs.Member.{In, In-from_Contains, Contains-from_In, list_any-from, list_any-at}
use Rattle.patch_model.specs.Step.{Step}
use Rattle.patch_model.specs.State.{entries_of, state_of, after_step}
use Rattle.patch_model.specs.Orderly.{IsNumbered}
use Rattle.patch_plans.specs.Groups.{patches_of, no_groups}
use Rattle.patch_plans.specs.Order.{ClosedSetsHoldBefore, GroupsAreSmall}
use Rattle.patch_plans.specs.Ordering.{none_of}
use Rattle.patch_group.specs.Asks.{run_after_all, groups_after_all}
use Rattle.patch_group.specs.Promise.{GroupsInOrder}
use Rattle.patch_group.proofs.Asking.{asks_keep}
use Rattle.patch_group.proofs.Chains.{chains}

-- Closed sets.

pub closed_sets : ClosedSetsHoldBefore
closed_sets run gs set a k q p e f ce cf cq cp cm se =
    let i = In-from_Contains e.patch.after f.patch.no (a.names q p f.patch.no e ce cq cp cm) in
    let t : is_among e.patch.after f.patch.no ≡ true = list_any-from (λ m. m == f.patch.no) e.patch.after f.patch.no i (eq-eqb _ _ refl) in
    k e f ce cf se (or_left _ _ t)

-- Patches that stand in order, each once and below the count made, are no more than were made.
pub groups_small : GroupsAreSmall
groups_small run gs g a =
    length-le_from_distinct_below (patches_of gs g) (length (entries_of run))
    (IsDistinct-from_AllPairs Decides-eqb (patches_of gs g) (λ i j d l m same. let below = a.rising g i j d l m in absurd (omega (arith, below, same))))
    (λ q t. let r = list_any-at (λ x. q == x) (patches_of gs g) t in a.made g q (Contains-from_In _ q (subst (In (patches_of gs g)) (sym (eqb-true _ _ r.2)) r.1)))

-- The promise.

pub in_order : ((run : Execution) (step : Step) → state_of (extended run step) ≡ after_step (state_of run) step) → ((run : Execution) → IsNumbered (entries_of run)) → GroupsInOrder
in_order ext numbered run asks answers set q p e f right closed chain ce cf cq cp held =
    closed_sets (run_after_all run no_groups asks answers) (groups_after_all no_groups asks answers) set (asks_keep ext numbered run no_groups asks answers (none_of run) right) closed q p e f ce cf cq
    ((chains run asks answers q p right).1 chain) cp held
