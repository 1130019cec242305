-- Blocks under writes, one after another.
use Rattle.std.specs.Prelude.{ℕ, List, [], ◌∷◌, ◌++◌, ◌≡◌, ◌+◌, slice_set, length, take, refl}
use Rattle.std.proofs.Common.{inr, sym, ap, ◌∙◌, arith, length-append}
use Rattle.std.proofs.Math.Seq.{take-length}
use Rattle.std.proofs.lemmas.List.{take-append-le}
use Rattle.patch_device.specs.Device.{LandsOrNot, Elapses}

-- the blocks after these writes, each of a block's number and its bytes
abbrev pub after_writes : List (List ℕ) → List (ℕ × List ℕ) → List (List ℕ)
after_writes blocks [] = blocks
after_writes blocks (w ∷ ws) = after_writes (slice_set blocks w.0 w.1) ws

-- What a cut leaves behind so many of these writes where each lasts at once: the blocks after them.
abbrev pub left_under : (first : List (List ℕ)) → List (ℕ × List ℕ) → ℕ → List (List ℕ) → Type 0
left_under first ws t disk = disk ≡ after_writes first (take t ws)

-- one more write
pub after_one_more : (blocks : List (List ℕ)) (ws : List (ℕ × List ℕ)) (w : ℕ × List ℕ) → after_writes blocks (ws ++ w ∷ []) ≡ slice_set (after_writes blocks ws) w.0 w.1
after_one_more blocks [] w = refl
after_one_more blocks (v ∷ ws) w = after_one_more (slice_set blocks v.0 v.1) ws w

pub one_longer : {T : Type 0} (xs : List T) (x : T) → length (xs ++ x ∷ []) ≡ length xs + 1
one_longer xs x = length-append xs (x ∷ [])

-- of the moments before it stays what was left at them,
pub elapses_under : (first : List (List ℕ)) (ws : List (ℕ × List ℕ)) (w : ℕ × List ℕ) → Elapses (length ws) (length (ws ++ w ∷ [])) (left_under first ws) (left_under first (ws ++ w ∷ []))
elapses_under first ws w = record {
  later = let long = one_longer ws w in omega (arith, long);
  past = λ t disk known.
      let same : after_writes first (take t (ws ++ w ∷ [])) ≡ after_writes first (take t ws) = ap (after_writes first) (take-append-le t ws (w ∷ []) known) in (λ h. h ∙ sym same, λ h. h ∙ same);
}

-- and it is what a cut leaves then
pub lands_under : (first : List (List ℕ)) (ws : List (ℕ × List ℕ)) (w : ℕ × List ℕ)
    → LandsOrNot (left_under first ws (length ws)) w.0 w.1 (left_under first (ws ++ w ∷ []) (length (ws ++ w ∷ [])))
lands_under first ws w disk left =
    let before : after_writes first (take (length ws) ws) ≡ after_writes first ws = ap (after_writes first) (take-length ws) in
    let now : after_writes first (take (length (ws ++ w ∷ [])) (ws ++ w ∷ [])) ≡ after_writes first (ws ++ w ∷ []) = ap (after_writes first) (take-length (ws ++ w ∷ [])) in
    (after_writes first (take (length ws) ws), refl, inr (left ∙ now ∙ after_one_more first ws w ∙ ap (λ b. slice_set b w.0 w.1) (sym before)))

-- behind all of them a cut leaves what is there
pub all_land_under : (first : List (List ℕ)) (ws : List (ℕ × List ℕ)) → left_under first ws (length ws) (after_writes first ws)
all_land_under first ws = ap (after_writes first) (sym (take-length ws))
