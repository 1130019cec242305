-- The answers of an upgrade.
use Rattle.std.proofs.Common.{◌≡◌, ℕ, ◌<◌, ◌≤◌, ◌∙◌, inl, [], ◌∷◌, length, refl, sym, ap, subst, arith}
use Rattle.std.specs.Prelude.{Some, None, count_by}
use Rattle.patch_model.specs.declared.refusals.RefusalKind.TheVariants as kind
use Rattle.patch_model.specs.declared.refusals.Refusal.{Refusal}
use Rattle.patch_model.specs.Refusing.{bare}
use Rattle.patch_model.specs.Entry.{is_live}
use Rattle.patch_model.specs.State.{entries_of}
use Rattle.patch_frame.specs.declared.geometries.Format.{Format}
use Rattle.patch_frame.specs.declared.geometries.Format.TheVariants.{One, Two}
use Rattle.patch_recovery.specs.Change.{Widen, widened, step_of}
use Rattle.patch_plans.specs.Extents.{Extents}
use Rattle.patch_plans.specs.Room.{why_no_room}
use Rattle.patch_plans.specs.Writing.{written, steps_by}
use Rattle.patch_history.specs.Command.{Upgrade, Done, Refused, unless}
use Rattle.patch_history.specs.ShelfLedger.{ShelvesAreKept}
use Rattle.patch_history.specs.Laws.{HistoriesExtend, StandingsAgree}
use Rattle.patch_history.specs.Refusing.{why_not_upgraded}
use Rattle.patch_history.specs.Shelf.{Shelf, after_change}
use Rattle.patch_history.specs.StoreState.{Standing, made_by, live_of, plan_of}
use Rattle.patch_history.specs.History.{History, Call, execution_of, standing_of}
use Rattle.patch_store.specs.Meaning.{Store, IsStoreOf, HasAnswered}
use Rattle.patch_extent.specs.Upgrading.{IsUpgraded}
use Rattle.patch_store.specs.Upgrading.{IsWidened}
use Rattle.patch_store.proofs.Gaining.{gained, refused, right_refused, right_caused}
use Rattle.patch_store.proofs.Outcomes.{merged_one}
use Rattle.patch_store.proofs.Removing.{room_none, room_spent, room_full}

-- Which version the disk is of.

format_is : ShelvesAreKept → StandingsAgree → (h : History) (old : Store) → IsStoreOf old h → (standing_of h).map.format ≡ old.shelf.extents.geometry.format
format_is kept agree h old was =
    (agree h was.legal).format ∙ ap (λ g. g.format) (sym (kept h).geometry) ∙ ap (λ (s : Shelf). s.extents.geometry.format) (sym was.shelf_is)

cause_wide : (st : Standing) (length : ℕ) → st.map.format ≡ Two length → why_not_upgraded st ≡ Some (bare kind.AlreadyVersion2)
cause_wide st length is = rw is refl

cause_narrow : (st : Standing) → st.map.format ≡ One → why_not_upgraded st ≡ why_no_room (made_by st) (live_of st) 1
cause_narrow st is = rw is refl

caused_so : HistoriesExtend → (h : History) (writer : ℕ) (cause : Refusal) (old : Store) → IsStoreOf old h → why_not_upgraded (standing_of h) ≡ Some cause
    → HasAnswered h writer Upgrade (Refused cause) old old
caused_so extends h writer cause old was is =
    refused extends h writer Upgrade cause old old was (right_caused (standing_of h) writer Upgrade (why_not_upgraded (standing_of h)) cause Done refl is) refl

pub wide_so : HistoriesExtend → ShelvesAreKept → StandingsAgree → (h : History) (writer length : ℕ) (old : Store) → old.shelf.extents.geometry.format ≡ Two length
    → IsStoreOf old h → HasAnswered h writer Upgrade (Refused (bare kind.AlreadyVersion2)) old old
wide_so extends kept agree h writer length old wide was =
    caused_so extends h writer (bare kind.AlreadyVersion2) old was (cause_wide (standing_of h) length (format_is kept agree h old was ∙ wide))

-- Where it is of version 1.

pub narrow_spent : HistoriesExtend → ShelvesAreKept → StandingsAgree → (h : History) (writer made : ℕ) (old : Store) → old.shelf.extents.geometry.format ≡ One
    → made ≡ length (entries_of (execution_of h)) → 16777216 ≤ made → IsStoreOf old h → HasAnswered h writer Upgrade (Refused (bare kind.NumbersSpent)) old old
narrow_spent extends kept agree h writer made old narrow count spent was =
    let n = (agree h was.legal).made in
    caused_so extends h writer (bare kind.NumbersSpent) old was
    (cause_narrow (standing_of h) (format_is kept agree h old was ∙ narrow)
    ∙ room_spent (made_by (standing_of h)) (live_of (standing_of h)) (omega (arith, n, count, spent)))

pub narrow_full : HistoriesExtend → ShelvesAreKept → StandingsAgree → (h : History) (writer made live : ℕ) (old : Store) → old.shelf.extents.geometry.format ≡ One
    → made ≡ length (entries_of (execution_of h)) → made < 16777216 → live ≡ count_by is_live (entries_of (execution_of h)) → 65536 ≤ live
    → IsStoreOf old h → HasAnswered h writer Upgrade (Refused (bare kind.TooManyLive)) old old
narrow_full extends kept agree h writer made live old narrow count few still full was =
    let n = (agree h was.legal).made in
    let l = (agree h was.legal).live in
    caused_so extends h writer (bare kind.TooManyLive) old was
    (cause_narrow (standing_of h) (format_is kept agree h old was ∙ narrow)
    ∙ room_full (made_by (standing_of h)) (live_of (standing_of h)) (omega (arith, n, count, few)) (omega (arith, l, still, full)))

no_cause : ShelvesAreKept → StandingsAgree → (h : History) (made live : ℕ) (old : Store) → old.shelf.extents.geometry.format ≡ One
    → made ≡ length (entries_of (execution_of h)) → made < 16777216 → live ≡ count_by is_live (entries_of (execution_of h)) → live < 65536
    → IsStoreOf old h → why_not_upgraded (standing_of h) ≡ None
no_cause kept agree h made live old narrow count few still less was =
    let n = (agree h was.legal).made in
    let l = (agree h was.legal).live in
    cause_narrow (standing_of h) (format_is kept agree h old was ∙ narrow)
    ∙ room_none (made_by (standing_of h)) (live_of (standing_of h)) (omega (arith, n, count, few)) (omega (arith, l, still, less))

pub narrow_lacked : HistoriesExtend → ShelvesAreKept → StandingsAgree → (h : History) (writer made live : ℕ) (old new : Store) → old.shelf.extents.geometry.format ≡ One
    → made ≡ length (entries_of (execution_of h)) → made < 16777216 → live ≡ count_by is_live (entries_of (execution_of h)) → live < 65536 → new ≡ old
    → IsStoreOf old h → HasAnswered h writer Upgrade (Refused (bare kind.OutOfMemory)) old new
narrow_lacked extends kept agree h writer made live old new narrow count few still less same was =
    let none = no_cause kept agree h made live old narrow count few still less was in
    refused extends h writer Upgrade (bare kind.OutOfMemory) old new was
    (right_refused (standing_of h) writer Upgrade None (bare kind.OutOfMemory) Done (ap (λ c. unless c Done) none) refl refl refl refl) same

pub upgraded_so : HistoriesExtend → ShelvesAreKept → StandingsAgree → (h : History) (writer made live : ℕ) (old new : Store) → old.shelf.extents.geometry.format ≡ One
    → made ≡ length (entries_of (execution_of h)) → made < 16777216 → live ≡ count_by is_live (entries_of (execution_of h)) → live < 65536 → IsWidened old new
    → IsStoreOf old h → HasAnswered h writer Upgrade Done old new
upgraded_so extends kept agree h writer made live old new narrow count few still less wide was =
    let st = standing_of h in
    let run = execution_of h in
    let none = no_cause kept agree h made live old narrow count few still less was in
    let step = step_of old.shelf.extents.geometry (record { change = Widen; after = [] }) in
    let number : wide.made ≡ made_by st = wide.stepped.number run was.cache_is ∙ sym (agree h was.legal).made in
    let whole : step ∷ [] ≡ steps_by [] (written st.shelf.extents (made_by st) (plan_of st writer Upgrade)) =
    ap (λ (s : Shelf). step_of s.extents.geometry (record { change = Widen; after = [] }) ∷ []) was.shelf_is in
    record {
      steps = step ∷ [];
      gained = gained extends h (Call writer Upgrade Done (step ∷ [])) old new was
          (inl (sym (ap (λ c. unless c Done) none), ([], whole)))
          (wide.stepped.stands run was.cache_is)
          (wide.groups_are ∙ was.groups_are)
          (wide.shelf_is ∙ ap (λ s. after_change s wide.made Widen) was.shelf_is ∙ ap (λ n. after_change st.shelf n Widen) number)
          wide.stepped.trace_is
          (merged_one st.run (written st.shelf.extents (made_by st) (plan_of st writer Upgrade)) _ (step ∷ []) old.left_out new.left_out
          refl refl whole wide.left_out_is);
    }

-- what the shelf keeps then
pub shelf_widened : (s : Shelf) (now : Extents) (made : ℕ) → now ≡ record s.extents { geometry = widened s.extents.geometry }
    → record s { extents = now; upgrade = Some made } ≡ after_change s made Widen
shelf_widened s now made is = ap (λ e. record s { extents = e; upgrade = Some made }) is

-- the patch that the extents made is that of the upgrade
pub widened_view : (old now new : Store) (made : ℕ) → old ≡ now → IsUpgraded old.shelf.extents old.cache new.shelf.extents new.cache made
    → new.groups ≡ old.groups → new.shelf ≡ after_change old.shelf made Widen → new.left_out ≡ old.left_out → IsWidened now new
widened_view old now new made is upgraded groups shelf left_out =
    subst (λ s. IsWidened s new) is (record {
      made = made;
      stepped = upgraded.stepped;
      groups_are = groups;
      shelf_is = shelf;
      left_out_is = left_out;
    })

-- a format that isn't of version 2
pub narrow_of : (f : Format) → ((length : ℕ) → f ≡ Two length → ⊥) → f ≡ One
narrow_of One never = refl
narrow_of (Two length) never = absurd (never length refl)
