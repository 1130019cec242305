-- Events of a device one by one, and the writes among them.
use Rattle.std.proofs.Common.{◌≡◌, ℕ, ◌+◌, ◌<◌, List, [], ◌∷◌, ◌++◌, Some, None, Bool, true, false, length, take, refl, sym, ap, ◌∙◌}
use Rattle.std.specs.Prelude.{slice_set, slice_index_or, is_some}
use Rattle.std.proofs.lemmas.List.{take_more, append-nil}
use Rattle.patch_device.specs.Cuts.{Event, written_behind, with_landed, writes_among, written_more, written_synced}
use Rattle.patch_device.specs.Writes.{one_longer}

-- the events up to one more
pub one_more : (es : List Event) (i : ℕ) (e found : Event) → i < length es → found ≡ slice_index_or es i found → found ≡ e → take (i + 1) es ≡ take i es ++ e ∷ []
one_more es i e found within at is = take_more es i found within ∙ ap (λ x. take i es ++ x ∷ []) (sym at ∙ is)

-- a write more is done on the blocks
pub written_one : (first now : List (List ℕ)) (es : List Event) (i : ℕ) (found : Event) (w : ℕ × List ℕ) → i < length es → found ≡ slice_index_or es i found → found ≡ Some w
    → now ≡ written_behind first (take i es) → slice_set now w.0 w.1 ≡ written_behind first (take (i + 1) es)
written_one first now es i found w within at is so_far =
    ap (λ (blocks : List (List ℕ)). slice_set blocks w.0 w.1) so_far
    ∙ sym (ap (written_behind first) (one_more es i (Some w) found within at is) ∙ written_more first (take i es) w)

pub synced_one : (first now : List (List ℕ)) (es : List Event) (i : ℕ) (found : Event) → i < length es → found ≡ slice_index_or es i found → found ≡ None
    → now ≡ written_behind first (take i es) → now ≡ written_behind first (take (i + 1) es)
synced_one first now es i found within at is so_far =
    so_far ∙ sym (ap (written_behind first) (one_more es i None found within at is) ∙ written_synced first (take i es))

pub among_both : (es fs : List Event) → writes_among (es ++ fs) ≡ writes_among es ++ writes_among fs
among_both [] fs = refl
among_both (Some w ∷ es) fs = ap (λ ws. w ∷ ws) (among_both es fs)
among_both (None ∷ es) fs = among_both es fs

pub among_one : (es : List Event) (i : ℕ) (found : Event) (w : ℕ × List ℕ) → i < length es → found ≡ slice_index_or es i found → found ≡ Some w
    → writes_among (take (i + 1) es) ≡ writes_among (take i es) ++ w ∷ []
among_one es i found w within at is = ap writes_among (one_more es i (Some w) found within at is) ∙ among_both (take i es) (Some w ∷ [])

pub among_none : (es : List Event) (i : ℕ) (found : Event) → i < length es → found ≡ slice_index_or es i found → found ≡ None
    → writes_among (take (i + 1) es) ≡ writes_among (take i es)
among_none es i found within at is =
    ap writes_among (one_more es i None found within at is) ∙ among_both (take i es) (None ∷ []) ∙ append-nil (writes_among (take i es))

-- a write more that is said to land
pub lands_said : (blocks : List (List ℕ)) (ws : List (ℕ × List ℕ)) (w : ℕ × List ℕ) (lands : List Bool) → slice_index_or lands (length ws) false ≡ true
    → with_landed blocks (ws ++ w ∷ []) lands ≡ slice_set (with_landed blocks ws lands) w.0 w.1
lands_said blocks [] w [] said = absurd (cc)
lands_said blocks [] w (true ∷ lands) said = refl
lands_said blocks [] w (false ∷ lands) said = absurd (cc)
lands_said blocks (v ∷ ws) w [] said = absurd (cc)
lands_said blocks (v ∷ ws) w (true ∷ lands) said = lands_said (slice_set blocks v.0 v.1) ws w lands said
lands_said blocks (v ∷ ws) w (false ∷ lands) said = lands_said blocks ws w lands said

-- and one that isn't
pub lands_not : (blocks : List (List ℕ)) (ws : List (ℕ × List ℕ)) (w : ℕ × List ℕ) (lands : List Bool) → slice_index_or lands (length ws) false ≡ false
    → with_landed blocks (ws ++ w ∷ []) lands ≡ with_landed blocks ws lands
lands_not blocks [] w [] said = refl
lands_not blocks [] w (true ∷ lands) said = absurd (cc)
lands_not blocks [] w (false ∷ lands) said = refl
lands_not blocks (v ∷ ws) w [] said = refl
lands_not blocks (v ∷ ws) w (true ∷ lands) said = lands_not (slice_set blocks v.0 v.1) ws w lands said
lands_not blocks (v ∷ ws) w (false ∷ lands) said = lands_not blocks ws w lands said

-- the writes so far, counted
pub counted_one : (es : List Event) (i : ℕ) (found : Event) → i < length es → found ≡ slice_index_or es i found → is_some found ≡ true
    → length (writes_among (take (i + 1) es)) ≡ length (writes_among (take i es)) + 1
counted_one es i None within at is = absurd (cc)
counted_one es i (Some w) within at is = ap length (among_one es i (Some w) w within at refl) ∙ one_longer (writes_among (take i es)) w

pub counted_none : (es : List Event) (i : ℕ) (found : Event) → i < length es → found ≡ slice_index_or es i found → is_some found ≡ false
    → length (writes_among (take (i + 1) es)) ≡ length (writes_among (take i es))
counted_none es i None within at is = ap length (among_none es i None within at refl)
counted_none es i (Some w) within at is = absurd (cc)

-- a write more where it lands, and where it doesn't
pub landed_one : (blocks now : List (List ℕ)) (es : List Event) (i place : ℕ) (found : Event) (w : ℕ × List ℕ) (lands : List Bool) → i < length es
    → found ≡ slice_index_or es i found → found ≡ Some w → place ≡ length (writes_among (take i es)) → now ≡ with_landed blocks (writes_among (take i es)) lands
    → slice_index_or lands place false ≡ true → slice_set now w.0 w.1 ≡ with_landed blocks (writes_among (take (i + 1) es)) lands
landed_one blocks now es i place found w lands within at is here so_far said =
    ap (λ (b : List (List ℕ)). slice_set b w.0 w.1) so_far
    ∙ sym (lands_said blocks (writes_among (take i es)) w lands (ap (λ n. slice_index_or lands n false) (sym here) ∙ said))
    ∙ ap (λ (ws : List (ℕ × List ℕ)). with_landed blocks ws lands) (sym (among_one es i found w within at is))

pub lost_one : (blocks now : List (List ℕ)) (es : List Event) (i place : ℕ) (found : Event) (w : ℕ × List ℕ) (lands : List Bool) → i < length es
    → found ≡ slice_index_or es i found → found ≡ Some w → place ≡ length (writes_among (take i es)) → now ≡ with_landed blocks (writes_among (take i es)) lands
    → slice_index_or lands place false ≡ false → now ≡ with_landed blocks (writes_among (take (i + 1) es)) lands
lost_one blocks now es i place found w lands within at is here so_far said =
    so_far
    ∙ sym (lands_not blocks (writes_among (take i es)) w lands (ap (λ n. slice_index_or lands n false) (sym here) ∙ said))
    ∙ ap (λ (ws : List (ℕ × List ℕ)). with_landed blocks ws lands) (sym (among_one es i found w within at is))
