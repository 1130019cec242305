-- What is told of a block's lists, and the numbers of some classes, one class after the other.
use Rattle.std.proofs.Common.{◌≡◌, ℕ, zero, suc, ◌+◌, ◌<◌, ◌≤◌, ◌∙◌, List, [], ◌∷◌, ◌++◌, length, refl, sym, ap, arith, drop, append_assoc, append-nil}
use Rattle.std.specs.Prelude.{slice_index_or}
use Rattle.patch_links.specs.State.{Nodes}
use Rattle.patch_links.specs.Ready.{members_at, gathered}

-- of the keys from a place on, those of the key at the place come first
gathered-at : (nodes : Nodes) (keys : List ℕ) (place key : ℕ) → place < length keys → slice_index_or keys place 0 ≡ key → gathered nodes (drop place keys) ≡ members_at nodes key ++ gathered nodes (drop (suc place) keys)
gathered-at nodes [] place key h at = absurd (omega arith)
gathered-at nodes (k ∷ keys) zero key h at = ap (λ j. members_at nodes j ++ gathered nodes keys) at
gathered-at nodes (k ∷ keys) (suc place) key h at = gathered-at nodes keys place key (omega arith) at

pub gathered-more : (nodes : Nodes) (keys so_far all whole : List ℕ) (place key : ℕ) → place < length keys → slice_index_or keys place 0 ≡ key → all ≡ so_far ++ members_at nodes key
    → so_far ++ gathered nodes (drop place keys) ≡ whole → all ++ gathered nodes (drop (place + 1) keys) ≡ whole
gathered-more nodes keys so_far all whole place key h at put was =
    let rest = drop (suc place) keys in
    ap (λ j. all ++ gathered nodes (drop j keys)) (let e : place + 1 ≡ suc place = omega arith in e) ∙ ap (λ xs. xs ++ gathered nodes rest) put
    ∙ append_assoc so_far (members_at nodes key) (gathered nodes rest) ∙ ap (λ xs. so_far ++ xs) (sym (gathered-at nodes keys place key h at)) ∙ was

drop-past : (xs : List ℕ) (i : ℕ) → length xs ≤ i → drop i xs ≡ []
drop-past [] zero h = refl
drop-past [] (suc i) h = refl
drop-past (x ∷ xs) zero h = absurd (omega arith)
drop-past (x ∷ xs) (suc i) h = drop-past xs i (omega arith)

pub gathered-all : (nodes : Nodes) (keys so_far whole : List ℕ) (place : ℕ) → length keys ≤ place → so_far ++ gathered nodes (drop place keys) ≡ whole → so_far ≡ whole
gathered-all nodes keys so_far whole place h was = sym (append-nil so_far) ∙ ap (λ xs. so_far ++ gathered nodes xs) (sym (drop-past keys place h)) ∙ was
