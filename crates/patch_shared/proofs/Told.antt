-- A writer's entries, one after another.
use Rattle.std.proofs.Common.{◌≡◌, ℕ, ◌+◌, ◌<◌, ◌≤◌, ◌∙◌, true, false, List, [], ◌∷◌, ◌++◌, length, map, take, drop, get_or, append-nil, refl, sym, ap}
use Rattle.std.specs.Prelude.{slice_get, Some}
use Rattle.std.proofs.lemmas.List.{take_more, map_more, map-append, take-append-drop, length-take-le}
use Rattle.std.proofs.lemmas.List.Elements.{filter-append}
use Rattle.std.proofs.lemmas.Option.{slice_get_within, get_or_from_slice_get}
use Rattle.patch_shared.specs.declared.entries.Entry.{Entry as CodeEntry}
use Rattle.patch_shared.specs.Books.{Entry, entry_of, is_by}
use Rattle.patch_shared.specs.Conversations.{entries_by}

entries_push : (n : ℕ) (calls : List Entry) (e : Entry) → entries_by n (calls ++ e ∷ []) ≡ entries_by n calls ++ entries_by n (e ∷ [])
entries_push n calls e = filter-append (is_by n) calls (e ∷ [])

-- an entry of another
pub other_entry : {A : Type 0} (n : ℕ) (calls : List (CodeEntry A)) (i : ℕ) (e : CodeEntry A) → i < length calls → e ≡ get_or calls i e
    → is_by n (entry_of e) ≡ false → entries_by n (map entry_of (take (i + 1) calls)) ≡ entries_by n (map entry_of (take i calls))
other_entry n calls i e less is other =
    let none : entries_by n (entry_of e ∷ []) ≡ [] = rw other refl in
    ap (entries_by n) (map_more entry_of calls i e less ∙ ap (λ x. map entry_of (take i calls) ++ entry_of x ∷ []) (sym is))
    ∙ entries_push n (map entry_of (take i calls)) (entry_of e)
    ∙ ap (λ es. entries_by n (map entry_of (take i calls)) ++ es) none ∙ append-nil (entries_by n (map entry_of (take i calls)))

-- and one of the writer's own
own_entry : {A : Type 0} (n : ℕ) (calls : List (CodeEntry A)) (i : ℕ) (e : CodeEntry A) → i < length calls → e ≡ get_or calls i e
    → is_by n (entry_of e) ≡ true → entries_by n (map entry_of (take (i + 1) calls)) ≡ entries_by n (map entry_of (take i calls)) ++ entry_of e ∷ []
own_entry n calls i e less is own =
    let one : entries_by n (entry_of e ∷ []) ≡ entry_of e ∷ [] = rw own refl in
    ap (entries_by n) (map_more entry_of calls i e less ∙ ap (λ x. map entry_of (take i calls) ++ entry_of x ∷ []) (sym is))
    ∙ entries_push n (map entry_of (take i calls)) (entry_of e)
    ∙ ap (λ es. entries_by n (map entry_of (take i calls)) ++ es) one

-- what is told of the writer's entries goes on by one
pub own_told : {A Y : Type 0} (n : ℕ) (calls : List (CodeEntry A)) (i : ℕ) (e : CodeEntry A) (says : Entry → Y) (told : List Y) (next : ℕ)
    → i < length calls → e ≡ get_or calls i e → is_by n (entry_of e) ≡ true → slice_get told next ≡ Some (says (entry_of e))
    → map says (entries_by n (map entry_of (take i calls))) ≡ take next told
    → map says (entries_by n (map entry_of (take (i + 1) calls))) ≡ take (next + 1) told
own_told n calls i e says told next less is own here so_far =
    ap (map says) (own_entry n calls i e less is own)
    ∙ map-append says (entries_by n (map entry_of (take i calls))) (entry_of e ∷ [])
    ∙ ap (λ ys. ys ++ says (entry_of e) ∷ []) so_far
    ∙ ap (λ y. take next told ++ y ∷ []) (sym (get_or_from_slice_get told next (says (entry_of e)) (says (entry_of e)) here))
    ∙ sym (take_more told next (says (entry_of e)) (slice_get_within told next (says (entry_of e)) here))

-- The entries of the whole list begin with those so far.

seam : {Y : Type 0} (ys : List Y) (y : Y) (rest : List Y) → slice_get ((ys ++ y ∷ []) ++ rest) (length ys) ≡ Some y
seam [] y rest = refl
seam (x ∷ ys) y rest = seam ys y rest

entries_whole : {A : Type 0} (n : ℕ) (calls : List (CodeEntry A)) (i : ℕ) → entries_by n (map entry_of calls) ≡ entries_by n (map entry_of (take i calls)) ++ entries_by n (map entry_of (drop i calls))
entries_whole n calls i =
    ap (λ xs. entries_by n (map entry_of xs)) (sym (take-append-drop i calls)) ∙ ap (entries_by n) (map-append entry_of (take i calls) (drop i calls))
    ∙ filter-append (is_by n) (map entry_of (take i calls)) (map entry_of (drop i calls))

-- where all of the writer's entries are told so, the next one is
pub own_next : {A Y : Type 0} (n : ℕ) (calls : List (CodeEntry A)) (i : ℕ) (e : CodeEntry A) (says : Entry → Y) (told : List Y) (next : ℕ)
    → i < length calls → e ≡ get_or calls i e → is_by n (entry_of e) ≡ true → next ≤ length told
    → map says (entries_by n (map entry_of (take i calls))) ≡ take next told
    → map says (entries_by n (map entry_of calls)) ≡ told → slice_get told next ≡ Some (says (entry_of e))
own_next n calls i e says told next less is own within so_far whole =
    let rest = map says (entries_by n (map entry_of (drop (i + 1) calls))) in
    let parts : told ≡ (take next told ++ says (entry_of e) ∷ []) ++ rest =
    sym whole ∙ ap (map says) (entries_whole n calls (i + 1)) ∙ map-append says (entries_by n (map entry_of (take (i + 1) calls))) (entries_by n (map entry_of (drop (i + 1) calls)))
    ∙ ap (λ ys. ys ++ rest) (ap (map says) (own_entry n calls i e less is own) ∙ map-append says (entries_by n (map entry_of (take i calls))) (entry_of e ∷ []) ∙ ap (λ ys. ys ++ says (entry_of e) ∷ []) so_far) in
    ap (λ ys. slice_get ys next) parts ∙ ap (λ k. slice_get ((take next told ++ says (entry_of e) ∷ []) ++ rest) k) (sym (length-take-le next told within)) ∙ seam (take next told) (says (entry_of e)) rest
