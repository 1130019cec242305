-- Why an extent isn't reclaimed.
use Rattle.std.proofs.Common.{◌≡◌, ◌≢◌, ℕ, ◌+◌, ◌<◌, ◌∙◌, true, false, List, length, refl, sym, ap, arith}
use Rattle.std.specs.Prelude.{◌==◌, nat_le, if◌then◌else◌, Option, Some, None, option_map, count_by}
use Rattle.std.proofs.lemmas.Bool.Decides.{nat_tests}
use Rattle.std.proofs.lemmas.List.{length-append}
use Rattle.patch_model.specs.declared.refusals.RefusalKind.TheVariants as kind
use Rattle.patch_model.specs.declared.refusals.Refusal.{Refusal}
use Rattle.patch_model.specs.Refusing.{bare}
use Rattle.patch_model.specs.Entry.{is_live}
use Rattle.patch_model.specs.State.{entries_of}
use Rattle.patch_recovery.specs.Change.{Made}
use Rattle.patch_plans.specs.Extents.{generation_at, offset_at}
use Rattle.patch_plans.specs.Planning.{reset_plan}
use Rattle.patch_plans.specs.Room.{why_no_room}
use Rattle.patch_history.specs.Choosing.{live_frames}
use Rattle.patch_history.specs.Command.{Reclaim}
use Rattle.patch_history.specs.History.{History, execution_of, standing_of}
use Rattle.patch_history.specs.Laws.{StandingsAgree}
use Rattle.patch_history.specs.Planning.{emptied, moves}
use Rattle.patch_history.specs.Refusing.{is_in_use, why_not_made, why_not_reclaimed}
use Rattle.patch_history.specs.Shelf.{Shelf, left_of, after_plan}
use Rattle.patch_history.specs.StoreState.{Standing, made_by, live_of, plan_for}
use Rattle.patch_store.specs.Meaning.{Store, IsStoreOf}
use Rattle.patch_store.specs.Trials.{moving_patches}

-- the first cause, where the shelf is this one
abbrev why_over : Standing → Shelf → ℕ → Option Refusal
why_over st s extent =
    if nat_le s.extents.geometry.extents extent then Some (bare kind.NoSuchExtent)
    else if offset_at s.extents extent == 0 then Some (bare kind.EmptyExtent)
    else if is_in_use s extent then Some (bare kind.OpenExtent)
    else if generation_at s.extents extent == 4294967295 then Some (bare kind.GenerationSpent)
    else why_not_made st (bare kind.NoSpace) (plan_for st (Reclaim extent))

-- A plan is made of the moves and of the reset behind them.

no_plan : (st : Standing) (cause : Refusal) (f : List Made → List Made) (o : Option (List Made)) → option_map length o ≡ None
    → why_not_made st cause (option_map f o) ≡ Some cause
no_plan st cause f None is = refl
no_plan st cause f (Some plan) is = absurd (let g : Some (length plan) ≡ None = is in cc)

some_plan : (st : Standing) (cause : Refusal) (f : List Made → List Made) (o : Option (List Made)) (count : ℕ)
    → ((plan : List Made) → length (f plan) ≡ length plan + 1) → option_map length o ≡ Some count
    → why_not_made st cause (option_map f o) ≡ why_no_room (made_by st) (live_of st) (count + 1)
some_plan st cause f None count long is = absurd (let g : None ≡ Some count = is in cc)
some_plan st cause f (Some plan) count long is =
    let g : Some (length plan) ≡ Some count = is in
    let same : length plan ≡ count = cc in
    ap (why_no_room (made_by st) (live_of st)) (long plan ∙ ap (λ n. n + 1) same)

length-emptied : (s : Shelf) (n extent : ℕ) (plan : List Made) → length (emptied s n extent plan) ≡ length plan + 1
length-emptied s n extent plan = length-append plan (reset_plan s.extents extent (left_of (after_plan s n plan) extent))

-- No cause of the extent's own stands against it.

pub record IsFree (s : Shelf) (extent : ℕ) : Type 0 where
  pub known : extent < s.extents.geometry.extents
  pub begun : offset_at s.extents extent ≢ 0
  pub unused : is_in_use s extent ≡ false
  pub unspent : generation_at s.extents extent ≢ 4294967295

by_plan : (h : History) (s : Store) (extent : ℕ) → IsStoreOf s h → IsFree s.shelf extent
    → why_not_reclaimed (standing_of h) extent ≡ why_not_made (standing_of h) (bare kind.NoSpace) (plan_for (standing_of h) (Reclaim extent))
by_plan h s extent was free =
    let known = free.known in
    let begun = free.begun in
    let unspent = free.unspent in
    let a : nat_le s.shelf.extents.geometry.extents extent ≡ false = grind (arith, nat_tests, known) in
    let b : (offset_at s.shelf.extents extent == 0) ≡ false = grind (arith, nat_tests, begun) in
    let d : (generation_at s.shelf.extents extent == 4294967295) ≡ false = grind (arith, nat_tests, unspent) in
    let c = free.unused in
    ap (λ x. why_over (standing_of h) x extent) (sym was.shelf_is) ∙ rw (a, b, c, d) refl

pub no_space : (h : History) (s : Store) (extent : ℕ) → IsStoreOf s h → IsFree s.shelf extent → None ≡ moving_patches (standing_of h) extent
    → why_not_reclaimed (standing_of h) extent ≡ Some (bare kind.NoSpace)
no_space h s extent was free is =
    let st = standing_of h in
    let all = moves st.map.entries st.shelf (made_by st) (live_frames st.shelf extent) in
    by_plan h s extent was free ∙ no_plan st (bare kind.NoSpace) (emptied st.shelf (made_by st) extent) all (sym is)

-- with a reset more
pub room_for : StandingsAgree → (h : History) (s : Store) (extent count : ℕ) → IsStoreOf s h → IsFree s.shelf extent → Some count ≡ moving_patches (standing_of h) extent
    → why_not_reclaimed (standing_of h) extent
    ≡ why_no_room (length (entries_of (execution_of h))) (count_by is_live (entries_of (execution_of h))) (count + 1)
room_for agree h s extent count was free is =
    let st = standing_of h in
    let a = agree h was.legal in
    let all = moves st.map.entries st.shelf (made_by st) (live_frames st.shelf extent) in
    by_plan h s extent was free
    ∙ some_plan st (bare kind.NoSpace) (emptied st.shelf (made_by st) extent) all count (length-emptied st.shelf (made_by st) extent) (sym is)
    ∙ ap (λ m. why_no_room m (live_of st) (count + 1)) a.made ∙ ap (λ l. why_no_room (length (entries_of (execution_of h))) l (count + 1)) a.live

pub in_use : (h : History) (s : Store) (extent : ℕ) → IsStoreOf s h → extent < s.shelf.extents.geometry.extents → offset_at s.shelf.extents extent ≢ 0
    → is_in_use s.shelf extent ≡ true → why_not_reclaimed (standing_of h) extent ≡ Some (bare kind.OpenExtent)
in_use h s extent was known begun used =
    let a : nat_le s.shelf.extents.geometry.extents extent ≡ false = grind (arith, nat_tests, known) in
    let b : (offset_at s.shelf.extents extent == 0) ≡ false = grind (arith, nat_tests, begun) in
    ap (λ x. why_over (standing_of h) x extent) (sym was.shelf_is) ∙ rw (a, b, used) refl

pub spent : (h : History) (s : Store) (extent : ℕ) → IsStoreOf s h → extent < s.shelf.extents.geometry.extents → offset_at s.shelf.extents extent ≢ 0
    → is_in_use s.shelf extent ≡ false → generation_at s.shelf.extents extent ≡ 4294967295
    → why_not_reclaimed (standing_of h) extent ≡ Some (bare kind.GenerationSpent)
spent h s extent was known begun unused last =
    let a : nat_le s.shelf.extents.geometry.extents extent ≡ false = grind (arith, nat_tests, known) in
    let b : (offset_at s.shelf.extents extent == 0) ≡ false = grind (arith, nat_tests, begun) in
    let d : (generation_at s.shelf.extents extent == 4294967295) ≡ true = grind (arith, nat_tests, last) in
    ap (λ x. why_over (standing_of h) x extent) (sym was.shelf_is) ∙ rw (a, b, unused, d) refl
