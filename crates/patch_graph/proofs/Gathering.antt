-- The numbers of marked classes, gathered key by key.
use Rattle.std.proofs.Common.{◌≡◌, ℕ, ◌+◌, ◌<◌, ◌≤◌, ◌∙◌, Bool, List, [], ◌∷◌, ◌++◌, length, drop, sym, ap, append_assoc, add-one, drop-cons}
use Rattle.std.proofs.lemmas.List.{append-nil, drop_all}
use Rattle.std.specs.Prelude.{slice_index_or}
use Rattle.patch_links.specs.State.{Slots}
use Rattle.patch_graph.specs.Ready.{members_at, gathered}

pub gathered-none : (slots : Slots) (marks : List Bool) (keys all : List ℕ) → all ≡ [] → all ++ gathered slots marks keys ≡ gathered slots marks keys
gathered-none slots marks keys all none = ap (λ ns. ns ++ gathered slots marks keys) none

-- the class at one more key
pub gathered-more : (slots : Slots) (marks : List Bool) (keys old new whole : List ℕ) (i : ℕ) → i < length keys → old ++ gathered slots marks (drop i keys) ≡ whole
    → new ≡ old ++ members_at slots marks (slice_index_or keys i 0) → new ++ gathered slots marks (drop (i + 1) keys) ≡ whole
gathered-more slots marks keys old new whole i low before is =
    let rest = gathered slots marks (drop (i + 1) keys) in
    let next : drop i keys ≡ slice_index_or keys i 0 ∷ drop (i + 1) keys = rw add-one (drop-cons keys i 0 low) in
    ap (λ ns. ns ++ rest) is ∙ append_assoc old (members_at slots marks (slice_index_or keys i 0)) rest ∙ ap (λ ks. old ++ gathered slots marks ks) (sym next) ∙ before

pub gathered-all : (slots : Slots) (marks : List Bool) (keys all whole : List ℕ) (i : ℕ) → length keys ≤ i → all ++ gathered slots marks (drop i keys) ≡ whole → all ≡ whole
gathered-all slots marks keys all whole i done before =
    sym (append-nil all) ∙ ap (λ ks. all ++ gathered slots marks ks) (sym (drop_all i keys done)) ∙ before
