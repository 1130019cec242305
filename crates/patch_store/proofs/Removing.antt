-- The answers of a delete.
use Rattle.std.proofs.Common.{◌≡◌, ℕ, ◌+◌, ◌<◌, ◌≤◌, ◌∙◌, inl, Bool, true, false, List, [], ◌∷◌, ◌++◌, length, map, get_or, replicate, refl, sym, ap, subst, arith}
use Rattle.std.specs.Prelude.{◌==◌, nat_lt, is_none, if◌then◌else◌, Option, Some, None, position, slice_set, slice_index_or, option_map, option_to_list, unwrap_or, count_by, take}
use Rattle.std.specs.Option.{option_or}
use Rattle.std.proofs.lemmas.Bool.Decides.{nat_tests}
use Rattle.patch_model.specs.declared.refusals.RefusalKind.TheVariants as kind
use Rattle.patch_model.specs.declared.refusals.Refusal.{Refusal}
use Rattle.patch_model.specs.Refusing.{bare}
use Rattle.patch_model.specs.Entry.{is_live}
use Rattle.patch_model.specs.State.{entries_of}
use Rattle.patch_model.specs.declared.patches.Undo.TheVariants.{MayDrop}
use Rattle.std.proofs.Math.Seq.{map-set_same}
use Rattle.std.proofs.lemmas.List.{map-set, get_or-map}
use Rattle.std.proofs.lemmas.List.Quantifiers.{position-Some}
use Rattle.patch_cache.specs.Contents.{Contents}
use Rattle.patch_plans.specs.Groups.{Groups, patch_of, with_patch}
use Rattle.patch_extent.specs.Appending.{IsPatched}
use Rattle.patch_plans.specs.Writing.{named_plan, written, steps_by}
use Rattle.patch_frame.specs.Field.{zeros}
use Rattle.patch_frame.specs.Geometry.{slot_block, slot_start}
use Rattle.patch_frame.specs.Slot.{SlotFields}
use Rattle.patch_recovery.specs.Change.{Clear, Made}
use Rattle.patch_recovery.specs.Ledger.{value_in}
use Rattle.patch_recovery.specs.Reading.{has_key}
use Rattle.patch_plans.specs.Room.{why_no_room}
use Rattle.patch_history.specs.Command.{Delete, Done, Refused, unless}
use Rattle.patch_history.specs.ShelfLedger.{ShelvesAreKept}
use Rattle.patch_history.specs.Laws.{HistoriesExtend, HistoriesAreRead, StandingsAgree}
use Rattle.patch_history.specs.Planning.{clear_plan}
use Rattle.patch_history.specs.Shelf.{Shelf, slot_at, leaving, after_change, after_plan}
use Rattle.patch_history.specs.StoreState.{Standing, made_by, live_of}
use Rattle.patch_history.specs.Refusing.{why_no_key, why_not_made, why_not_deleted}
use Rattle.patch_history.specs.History.{History, Call, execution_of, standing_of}
use Rattle.patch_store.specs.Meaning.{Store, IsStoreOf, HasAnswered}
use Rattle.patch_store.specs.Deleting.{IsCleared}
use Rattle.patch_store.proofs.Gaining.{gained, refused, right_refused, right_caused}
use Rattle.patch_store.proofs.Outcomes.{merged_one}
use Rattle.patch_store.proofs.Finding.{found_so, absent_so}

-- Why a delete is refused.

pub key_empty : (key : List ℕ) (empty : Bool) → empty ≡ (length key == 0) → empty ≡ true → why_no_key key ≡ Some (bare kind.KeyLength)
key_empty key empty is some = let a : (length key == 0) ≡ true = sym is ∙ some in rw a refl

pub key_long : (key : List ℕ) → 32 < length key → why_no_key key ≡ Some (bare kind.KeyLength)
key_long key long =
    let a : (length key == 0) ≡ false = grind (arith, nat_tests, long) in
    let b : nat_lt 32 (length key) ≡ true = grind (arith, nat_tests, long) in
    rw (a, b) refl

pub room_none : (made live : ℕ) → made < 16777216 → live < 65536 → why_no_room made live 1 ≡ None
room_none made live few still =
    let a : nat_lt 16777216 (made + 1) ≡ false = grind (arith, nat_tests, few) in
    let b : nat_lt 65536 (live + 1) ≡ false = grind (arith, nat_tests, still) in
    rw (a, b) refl

pub room_spent : (made live : ℕ) → 16777216 ≤ made → why_no_room made live 1 ≡ Some (bare kind.NumbersSpent)
room_spent made live spent = let a : nat_lt 16777216 (made + 1) ≡ true = grind (arith, nat_tests, spent) in rw a refl

pub room_full : (made live : ℕ) → made < 16777216 → 65536 ≤ live → why_no_room made live 1 ≡ Some (bare kind.TooManyLive)
room_full made live few full =
    let a : nat_lt 16777216 (made + 1) ≡ false = grind (arith, nat_tests, few) in
    let b : nat_lt 65536 (live + 1) ≡ true = grind (arith, nat_tests, full) in
    rw (a, b) refl

cause_key : (st : Standing) (key : List ℕ) (cause : Refusal) → why_no_key key ≡ Some cause → why_not_deleted st key ≡ Some cause
cause_key st key cause is = rw is refl

cause_none : (st : Standing) (key : List ℕ) → why_no_key key ≡ None → value_in st.map.entries key ≡ None → why_not_deleted st key ≡ Some (bare kind.NoKey)
cause_none st key fits none = rw (fits, none) refl

cause_room : (st : Standing) (key value : List ℕ) (slot : ℕ) → why_no_key key ≡ None → value_in st.map.entries key ≡ Some value → position (has_key key) st.shelf.slots ≡ Some slot
    → why_not_deleted st key ≡ why_no_room (made_by st) (live_of st) 1
cause_room st key value slot fits is at =
    ap (λ o. option_or o (if is_none (value_in st.map.entries key) then Some (bare kind.NoKey) else why_not_made st (bare kind.NoKey) (option_map (clear_plan st.shelf) (position (has_key key) st.shelf.slots)))) fits
    ∙ ap (λ v. if is_none v then Some (bare kind.NoKey) else why_not_made st (bare kind.NoKey) (option_map (clear_plan st.shelf) (position (has_key key) st.shelf.slots))) is
    ∙ ap (λ p. why_not_made st (bare kind.NoKey) (option_map (clear_plan st.shelf) p)) at

-- a delete that is refused for a cause
refused_so : HistoriesExtend → (h : History) (writer : ℕ) (key : List ℕ) (cause : Refusal) (old : Store) → IsStoreOf old h → why_not_deleted (standing_of h) key ≡ Some cause
    → HasAnswered h writer (Delete key) (Refused cause) old old
refused_so extends h writer key cause old was is =
    refused extends h writer (Delete key) cause old old was (right_caused (standing_of h) writer (Delete key) (why_not_deleted (standing_of h) key) cause Done refl is) refl

pub no_key_so : HistoriesExtend → (h : History) (writer : ℕ) (key : List ℕ) (old : Store) → why_no_key key ≡ Some (bare kind.KeyLength) → IsStoreOf old h
    → HasAnswered h writer (Delete key) (Refused (bare kind.KeyLength)) old old
no_key_so extends h writer key old is was = refused_so extends h writer key (bare kind.KeyLength) old was (cause_key (standing_of h) key (bare kind.KeyLength) is)

pub none_so : HistoriesExtend → ShelvesAreKept → HistoriesAreRead → StandingsAgree → (h : History) (writer : ℕ) (key : List ℕ) (old : Store) → why_no_key key ≡ None
    → position (has_key key) old.shelf.slots ≡ None → IsStoreOf old h → HasAnswered h writer (Delete key) (Refused (bare kind.NoKey)) old old
none_so extends kept reads agree h writer key old fits none was =
    refused_so extends h writer key (bare kind.NoKey) old was (cause_none (standing_of h) key fits (sym (absent_so kept reads agree h old was key none)))

-- What a slot of the key comes to.

is_used : (key : List ℕ) (o : Option SlotFields) → has_key key o ≡ true → (f : SlotFields) × (o ≡ Some f)
is_used key None on = absurd (let g : false ≡ true = on in cc)
is_used key (Some f) on = (f, refl)

pub record IsKeyed (key : List ℕ) (slot : ℕ) (old : Store) : Type 0 where
  pub fits : why_no_key key ≡ None
  pub at : position (has_key key) old.shelf.slots ≡ Some slot
  pub fields : SlotFields
  pub used : get_or old.shelf.slots slot None ≡ Some fields

cause_keyed : ShelvesAreKept → HistoriesAreRead → StandingsAgree → (h : History) (key : List ℕ) (slot : ℕ) (old : Store) → IsKeyed key slot old → IsStoreOf old h
    → why_not_deleted (standing_of h) key ≡ why_no_room (made_by (standing_of h)) (live_of (standing_of h)) 1
cause_keyed kept reads agree h key slot old k was =
    cause_room (standing_of h) key _ slot k.fits (sym (found_so kept reads agree h old was key slot k.fields k.at k.used))
    (ap (λ (s : Shelf). position (has_key key) s.slots) (sym was.shelf_is) ∙ k.at)

pub spent_so : HistoriesExtend → ShelvesAreKept → HistoriesAreRead → StandingsAgree → (h : History) (writer : ℕ) (key : List ℕ) (slot made : ℕ) (old : Store) → IsKeyed key slot old
    → made ≡ length (entries_of (execution_of h)) → 16777216 ≤ made → IsStoreOf old h → HasAnswered h writer (Delete key) (Refused (bare kind.NumbersSpent)) old old
spent_so extends kept reads agree h writer key slot made old k count spent was =
    let n = (agree h was.legal).made in
    refused_so extends h writer key (bare kind.NumbersSpent) old was
    (cause_keyed kept reads agree h key slot old k was ∙ room_spent (made_by (standing_of h)) (live_of (standing_of h)) (omega (arith, n, count, spent)))

pub full_so : HistoriesExtend → ShelvesAreKept → HistoriesAreRead → StandingsAgree → (h : History) (writer : ℕ) (key : List ℕ) (slot made live : ℕ) (old : Store) → IsKeyed key slot old
    → made ≡ length (entries_of (execution_of h)) → made < 16777216 → live ≡ count_by is_live (entries_of (execution_of h)) → 65536 ≤ live
    → IsStoreOf old h → HasAnswered h writer (Delete key) (Refused (bare kind.TooManyLive)) old old
full_so extends kept reads agree h writer key slot made live old k count few still full was =
    let n = (agree h was.legal).made in
    let l = (agree h was.legal).live in
    refused_so extends h writer key (bare kind.TooManyLive) old was
    (cause_keyed kept reads agree h key slot old k was ∙ room_full (made_by (standing_of h)) (live_of (standing_of h)) (omega (arith, n, count, few)) (omega (arith, l, still, full)))

no_cause : ShelvesAreKept → HistoriesAreRead → StandingsAgree → (h : History) (key : List ℕ) (slot made live : ℕ) (old : Store) → IsKeyed key slot old
    → made ≡ length (entries_of (execution_of h)) → made < 16777216 → live ≡ count_by is_live (entries_of (execution_of h)) → live < 65536
    → IsStoreOf old h → why_not_deleted (standing_of h) key ≡ None
no_cause kept reads agree h key slot made live old k count few still less was =
    let n = (agree h was.legal).made in
    let l = (agree h was.legal).live in
    cause_keyed kept reads agree h key slot old k was ∙ room_none (made_by (standing_of h)) (live_of (standing_of h)) (omega (arith, n, count, few)) (omega (arith, l, still, less))

pub memory_so : HistoriesExtend → ShelvesAreKept → HistoriesAreRead → StandingsAgree → (h : History) (writer : ℕ) (key : List ℕ) (slot made live : ℕ) (old new : Store) → IsKeyed key slot old
    → made ≡ length (entries_of (execution_of h)) → made < 16777216 → live ≡ count_by is_live (entries_of (execution_of h)) → live < 65536 → new ≡ old
    → IsStoreOf old h → HasAnswered h writer (Delete key) (Refused (bare kind.OutOfMemory)) old new
memory_so extends kept reads agree h writer key slot made live old new k count few still less same was =
    let none = no_cause kept reads agree h key slot made live old k count few still less was in
    refused extends h writer (Delete key) (bare kind.OutOfMemory) old new was
    (right_refused (standing_of h) writer (Delete key) None (bare kind.OutOfMemory) Done (ap (λ c. unless c Done) none) refl refl refl refl) same

pub deleted_so : HistoriesExtend → ShelvesAreKept → HistoriesAreRead → StandingsAgree → (h : History) (writer : ℕ) (key : List ℕ) (slot made live : ℕ) (old new : Store) → IsKeyed key slot old
    → made ≡ length (entries_of (execution_of h)) → made < 16777216 → live ≡ count_by is_live (entries_of (execution_of h)) → live < 65536 → IsCleared writer slot old new
    → IsStoreOf old h → HasAnswered h writer (Delete key) Done old new
deleted_so extends kept reads agree h writer key slot made live old new k count few still less cleared was =
    let st = standing_of h in
    let run = execution_of h in
    let m = made_by st in
    let plan : Option ℕ → List Made = λ p. named_plan st.groups (Some writer) m (unwrap_or (option_map (clear_plan st.shelf) p) []) in
    let step = patch_of old.groups (Some writer) (slot_block slot) (slot_start slot) (zeros 64) (option_to_list old.shelf.last_delete) MayDrop in
    let none = no_cause kept reads agree h key slot made live old k count few still less was in
    let at : position (has_key key) st.shelf.slots ≡ Some slot = ap (λ (s : Shelf). position (has_key key) s.slots) (sym was.shelf_is) ∙ k.at in
    let number : cleared.made ≡ m = cleared.patched.number run was.cache_is ∙ sym (agree h was.legal).made in
    let whole : step ∷ [] ≡ steps_by [] (written st.shelf.extents m (plan (position (has_key key) st.shelf.slots))) =
    ap (λ (s : Shelf). patch_of old.groups (Some writer) (slot_block slot) (slot_start slot) (zeros 64) (option_to_list s.last_delete) MayDrop ∷ []) was.shelf_is
    ∙ ap (λ gs. patch_of gs (Some writer) (slot_block slot) (slot_start slot) (zeros 64) (option_to_list st.shelf.last_delete) MayDrop ∷ []) was.groups_are
    ∙ sym (ap (λ p. steps_by [] (written st.shelf.extents m (plan p))) at) in
    record {
      steps = step ∷ [];
      gained = gained extends h (Call writer (Delete key) Done (step ∷ [])) old new was
          (inl (sym (ap (λ c. unless c Done) none), ([], whole)))
          (cleared.patched.stands run was.cache_is)
          (cleared.patched.groups_are ∙ ap (λ gs. with_patch gs (Some writer) cleared.made) was.groups_are ∙ ap (with_patch st.groups (Some writer)) number)
          (cleared.shelf_is ∙ ap (λ s. after_change s cleared.made (Clear slot)) was.shelf_is ∙ ap (λ n. after_change st.shelf n (Clear slot)) number
          ∙ sym (ap (λ p. after_plan st.shelf m (take 1 (plan p))) at))
          cleared.patched.trace_is
          (merged_one st.run (written st.shelf.extents m (plan (position (has_key key) st.shelf.slots))) _ (step ∷ []) old.left_out new.left_out
          (ap (λ p. written st.shelf.extents m (plan p)) at) refl whole cleared.left_out_is);
    }

-- a slot that has the key is used
pub keyed : (key : List ℕ) (slot : ℕ) (old : Store) → why_no_key key ≡ None → position (has_key key) old.shelf.slots ≡ Some slot → IsKeyed key slot old
keyed key slot old fits at =
    let f = is_used key (get_or old.shelf.slots slot None) (position-Some (has_key key) old.shelf.slots slot None at).1 in
    record { fits = fits; at = at; fields = f.0; used = f.1 }

-- What the shelf keeps then.

pub shelf_cleared : (s : Shelf) (n slot : ℕ) (f : SlotFields) (slots : List (Option SlotFields)) (left : List (List ℕ)) → slots ≡ slice_set s.slots slot None → slot_at s slot ≡ Some f
    → left ≡ slice_set s.left f.extent (slice_index_or s.left f.extent [] ++ n ∷ []) → record s { slots = slots; left = left; last_delete = Some n } ≡ after_change s n (Clear slot)
shelf_cleared s n slot f slots left a b c =
    ap (λ x. record s { slots = x; left = left; last_delete = Some n }) a
    ∙ ap (λ x. record s { slots = slice_set s.slots slot None; left = x; last_delete = Some n }) (c ∙ sym (ap (leaving s.left n) b))

zeros_are : replicate 64 0 ≡ zeros 64
unfolding zeros
zeros_are = refl

-- the patch of an empty slot
pub patched_at : (block start : ℕ) (bytes : List ℕ) (slot : ℕ) (writer : Option ℕ) (after : List ℕ) (groups : Groups) (cache : Contents) (groups_now : Groups) (cache_now : Contents) (made : ℕ)
    → block ≡ slot_block slot → start ≡ slot_start slot → bytes ≡ replicate 64 0 → IsPatched block start bytes writer after groups cache groups_now cache_now made
    → IsPatched (slot_block slot) (slot_start slot) (zeros 64) writer after groups cache groups_now cache_now made
patched_at block start bytes slot writer after groups cache groups_now cache_now made a b c is =
    subst (λ x. IsPatched (slot_block slot) (slot_start slot) x writer after groups cache groups_now cache_now made) (c ∙ zeros_are)
    (subst (λ x. IsPatched (slot_block slot) x bytes writer after groups cache groups_now cache_now made) b
    (subst (λ x. IsPatched x start bytes writer after groups cache groups_now cache_now made) a is))

-- what is kept of an extent, with another value of the same numbers in its place
pub cleared_view : (writer slot made : ℕ) (names : List ℕ) (old now new : Store) → old ≡ now → names ≡ option_to_list old.shelf.last_delete
    → IsPatched (slot_block slot) (slot_start slot) (zeros 64) (Some writer) names old.groups old.cache new.groups new.cache made
    → new.shelf ≡ after_change old.shelf made (Clear slot) → new.left_out ≡ old.left_out → IsCleared writer slot now new
cleared_view writer slot made names old now new is named patched shelf left_out =
    subst (λ s. IsCleared writer slot s new) is (record {
      made = made;
      patched = subst (λ x. IsPatched (slot_block slot) (slot_start slot) (zeros 64) (Some writer) x old.groups old.cache new.groups new.cache made) named patched;
      shelf_is = shelf;
      left_out_is = left_out;
    })

-- What is kept of one extent, in another vector.

pub same_left : {V : Type 0} (items : V → List ℕ) (left : List V) (e : ℕ) (v old : V) → items v ≡ items old → old ≡ get_or left e old → map items (slice_set left e v) ≡ map items left
same_left items left e v old same at = map-set_same items left e v old (same ∙ ap items at)

pub more_left : {V : Type 0} (items : V → List ℕ) (left : List V) (e n : ℕ) (v old : V) → e < length left → items v ≡ items old ++ n ∷ [] → old ≡ get_or left e old
    → map items (slice_set left e v) ≡ slice_set (map items left) e (slice_index_or (map items left) e [] ++ n ∷ [])
more_left items left e n v old within more at =
    map-set items left e v ∙ ap (slice_set (map items left) e) (more ∙ ap (λ xs. xs ++ n ∷ []) (ap items at ∙ sym (get_or-map items left e old [] within)))

pub left_alike : (old now : Store) (left : List (List ℕ)) → old ≡ now → left ≡ old.shelf.left → record old { shelf = record old.shelf { left = left } } ≡ now
left_alike old now left is same = ap (λ l. record old { shelf = record old.shelf { left = l } }) same ∙ is

pub all_alike : (old now : Store) (left : List (List ℕ)) (groups : Groups) (cache : Contents) → old ≡ now → left ≡ old.shelf.left → groups ≡ old.groups → cache ≡ old.cache
    → record old { cache = cache; groups = groups; shelf = record old.shelf { left = left } } ≡ now
all_alike old now left groups cache is same same_groups same_cache =
    ap (λ k. record old { cache = k; groups = groups; shelf = record old.shelf { left = left } }) same_cache
    ∙ ap (λ k. record old { groups = k; shelf = record old.shelf { left = left } }) same_groups
    ∙ left_alike old now left is same
