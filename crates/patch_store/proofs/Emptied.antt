-- An extent that is emptied.
use Rattle.std.proofs.Common.{◌≡◌, ℕ, ◌∙◌, ◌++◌, ◌∷◌, ◌<◌, Bool, true, false, List, [], length, map, take, get_or, refl, sym, ap, subst}
use Rattle.std.specs.Prelude.{◌==◌, Option, Some, None, slice_set}
use Rattle.std.proofs.lemmas.List.{map-set, get_or-map}
use Rattle.patch_model.specs.Execution.{Execution, followed_by}
use Rattle.patch_model.specs.State.{entries_of}
use Rattle.patch_model.specs.Step.{Step}
use Rattle.patch_cache.specs.Contents.{Contents}
use Rattle.patch_cache.specs.Meaning.{IsCacheOf}
use Rattle.patch_plans.specs.Groups.{Groups}
use Rattle.patch_recovery.specs.Change.{Made}
use Rattle.patch_extent.specs.Answers.{setting, IsSettingOf, IsReset}
use Rattle.patch_plans.specs.Extents.{Extents}
use Rattle.patch_plans.specs.Writing as extents
use Rattle.patch_plans.specs.Writing.{written, steps_by}
use Rattle.patch_history.specs.Shelf.{Shelf, left_of, not_current, after_plan}
use Rattle.patch_history.specs.StoreState.{Standing, made_by, creates}
use Rattle.patch_store.specs.Meaning.{Store}
use Rattle.patch_store.specs.Moving.{IsStanding, reset_of, IsEmptied}
use Rattle.patch_store.proofs.Counted.{creates_by}
use Rattle.patch_store.proofs.Framed.{store_at, store_is}
use Rattle.patch_store.proofs.Moves.{patches_none}
use Rattle.patch_store.proofs.Outcomes.{merged_one}

-- The current extent behind a reset.

pub no_longer : (extent : ℕ) (current : Option ℕ) → (elim current [ Some e ↦ e == extent | None ↦ false ]) ≡ true → None ≡ not_current extent current
no_longer extent None is = refl
no_longer extent (Some e) is = rw is refl

pub still : (extent : ℕ) (current : Option ℕ) → (elim current [ Some e ↦ e == extent | None ↦ false ]) ≡ false → current ≡ not_current extent current
still extent None is = refl
still extent (Some e) is = rw is refl

-- what is kept of one extent, once nothing has left it
pub none_left : {V : Type 0} (items : V → List ℕ) (left : List V) (e : ℕ) (v : V) → items v ≡ [] → map items (slice_set left e v) ≡ slice_set (map items left) e []
none_left items left e v none = map-set items left e v ∙ ap (slice_set (map items left) e) none

pub left_at : {V : Type 0} (items : V → List ℕ) (left : List V) (e : ℕ) (v : V) → e < length left → v ≡ get_or left e v → items v ≡ get_or (map items left) e []
left_at items left e v within at = ap items at ∙ sym (get_or-map items left e v [] within)

-- The store behind it.

-- the shelf with these extents, current extent and patches that left extents
abbrev pub reset_shelf : Shelf → (extent : ℕ) → Extents → Shelf
reset_shelf s extent e = record s { extents = e; current = not_current extent s.current; left = slice_set s.left extent [] }

-- where there is no merge to choose the choices make none

no_steps : (choices : List Bool) → steps_by choices [] ≡ []
no_steps [] = refl
no_steps (true ∷ choices) = refl
no_steps (false ∷ choices) = refl

one_step : (choices : List Bool) (create : Step) → steps_by choices (record { create = create; merge = None } ∷ []) ≡ create ∷ []
one_step [] create = refl
one_step (true ∷ choices) create = ap (λ steps. create ∷ steps) (no_steps choices)
one_step (false ∷ choices) create = ap (λ steps. create ∷ steps) (no_steps choices)

emptied_at : (st : Standing) (extent : ℕ) (cache : Contents) (left_out : ℕ) (new : Store) (patch : ℕ)
    → IsSettingOf (setting st.shelf.extents st.groups cache) st.run → length (entries_of st.run) ≡ made_by st
    → IsReset st.run extent (left_of st.shelf extent) (setting st.shelf.extents st.groups cache) (setting new.shelf.extents new.groups new.cache) patch
    → new.shelf ≡ reset_shelf st.shelf extent new.shelf.extents → new.left_out ≡ left_out
    → IsEmptied st extent (store_at st cache left_out) new
emptied_at st extent cache left_out new patch stands count r shelf same =
    let s = st.shelf in
    let n = made_by st in
    let plan : List Made = reset_of s extent in
    let made = r.is_written.made in
    let cs = r.is_written.choices in
    let steps : ℕ → List Step = λ i. steps_by cs (written s.extents i plan) in
    record {
      steps = steps n;
      whole = (cs, refl);
      stands = record {
        cache_is = subst (λ i. IsCacheOf new.cache (followed_by st.run (steps i))) count made.stands.cache_is;
        trace_is = made.trace_is ∙ ap (λ i. cache.trace ++ steps i) count;
        groups_are = made.groups_are ∙ sym (patches_none st.groups n (creates (steps n)));
        shelf_is = shelf ∙ ap (reset_shelf s extent) (made.extents_are ∙ ap (λ i. extents.after_plan s.extents i plan) count)
            ∙ sym (ap (λ k. after_plan s n (take k plan)) (creates_by cs s.extents n plan));
        merged = merged_one st.run (written s.extents n plan) _ (steps n) left_out new.left_out refl refl (one_step cs _) same;
      };
    }

pub emptied_so : (extent : ℕ) (names : List ℕ) (patch : ℕ) (old now new : Store) → old ≡ now → names ≡ left_of old.shelf extent
    → ((groups : Groups) (run : Execution) → IsSettingOf (setting old.shelf.extents groups old.cache) run
    → IsReset run extent names (setting old.shelf.extents groups old.cache) (setting new.shelf.extents groups new.cache) patch)
    → new.groups ≡ old.groups → new.shelf ≡ reset_shelf old.shelf extent new.shelf.extents → new.left_out ≡ old.left_out
    → (st : Standing) → IsStanding st now → IsEmptied st extent now new
emptied_so extent names patch old now new is named reset groups shelf left_out st asks =
    let a = subst (IsStanding st) (sym is) asks in
    let same : old ≡ store_at st old.cache old.left_out = store_is st old a.groups_are a.shelf_is in
    let stands = subst (λ (x : Store). IsSettingOf (setting x.shelf.extents x.groups x.cache) st.run) same a.setting_is in
    let r = reset old.groups st.run a.setting_is in
    let with_groups = subst (λ g. IsReset st.run extent names (setting old.shelf.extents old.groups old.cache) (setting new.shelf.extents g new.cache) patch) (sym groups) r in
    let with_names = subst (λ x. IsReset st.run extent x (setting old.shelf.extents old.groups old.cache) (setting new.shelf.extents new.groups new.cache) patch) named with_groups in
    subst (λ s. IsEmptied st extent s new) is (subst (λ s. IsEmptied st extent s new) (sym same)
    (emptied_at st extent old.cache old.left_out new patch stands a.counted
    (subst (λ (x : Store). IsReset st.run extent (left_of x.shelf extent) (setting x.shelf.extents x.groups x.cache) (setting new.shelf.extents new.groups new.cache) patch) same with_names)
    (subst (λ (x : Store). new.shelf ≡ reset_shelf x.shelf extent new.shelf.extents) same shelf) left_out))

pub shelf_reset : (s : Shelf) (extent : ℕ) (e : Extents) (current : Option ℕ) (left : List (List ℕ)) → current ≡ not_current extent s.current
    → left ≡ slice_set s.left extent [] → record s { extents = e; current = current; left = left } ≡ reset_shelf s extent e
shelf_reset s extent e current left a b =
    ap (λ o. record s { extents = e; current = o; left = left }) a
    ∙ ap (λ l. record s { extents = e; current = not_current extent s.current; left = l }) b

-- nothing was reset
pub reset_alike : (old now : Store) (e : Extents) (cache : Contents) (left : List (List ℕ)) → old ≡ now → e ≡ old.shelf.extents → cache ≡ old.cache → left ≡ old.shelf.left
    → record old { cache = cache; shelf = record old.shelf { extents = e; left = left } } ≡ now
reset_alike old now e cache left is same same_cache same_left =
    ap (λ x. record old { cache = cache; shelf = record old.shelf { extents = x; left = left } }) same
    ∙ ap (λ k. record old { cache = k; shelf = record old.shelf { left = left } }) same_cache
    ∙ ap (λ l. record old { shelf = record old.shelf { left = l } }) same_left ∙ is
