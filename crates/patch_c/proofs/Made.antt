-- The first block of a new disk is in the buffer where it fits, and the buffer is as it was where it doesn't.
use Rattle.std.proofs.Common.{◌≡◌, ◌∙◌, ℕ, suc, ◌+◌, ◌-◌, ◌*◌, Bool, true, false, List, length, refl, sym, ap, arith}
use Rattle.std.specs.Prelude.{◌≢◌, ◌++◌, drop, replicate, Some, IsTrue, nat_le, if◌then◌else◌}
use Rattle.std.proofs.lemmas.List.{length-replicate}
use Rattle.patch_frame.specs.declared.geometries.Geometry.{Geometry}
use Rattle.patch_frame.specs.Geometry.{is_geometry, block_count, extent_blocks}
use Rattle.patch_frame.specs.Superblock.{spelling}
use Rattle.patch_handles.specs.declared.answers.Answer.{Answer}
use Rattle.patch_handles.specs.declared.answers.Answer.TheVariants.{Done, BufferTooSmall}
use Rattle.patch_c.specs.Opening.{HasMade}
use Rattle.patch_handles.specs.Copying.{copied, answer_copying}

all_there : (fits : Bool) (whole into : List ℕ) → (if fits then Done else BufferTooSmall) ≡ Done → (if fits then whole else into) ≡ whole
all_there true whole into done = refl
all_there false whole into done = absurd (cc)

as_before : (fits : Bool) (whole into : List ℕ) → (if fits then Done else BufferTooSmall) ≢ Done → (if fits then whole else into) ≡ into
as_before true whole into refused = absurd (refused refl)
as_before false whole into refused = refl

pub made_so : (g : Geometry) (first into into_now : List ℕ) (count : ℕ) (answer : Answer) → IsTrue (is_geometry g) → first ≡ spelling g → count ≡ block_count g
    → answer ≡ answer_copying first into → into_now ≡ copied first into → answer ≡ Done → HasMade g into into_now count
made_so g first into into_now count answer geometry disk many told is done = record {
  geometry = geometry;
  count_is =
      let long : length (replicate (block_count g - 1) (replicate 4096 0)) ≡ block_count g - 1 = length-replicate (block_count g - 1) (replicate 4096 0) in
      let whole : 2 + g.index + extent_blocks g.format * g.extents ≡ suc (2 + g.index + extent_blocks g.format * g.extents - 1) = omega arith in
      many ∙ whole ∙ ap suc (sym long);
  first = first;
  first_is = ap Some (sym disk);
  copied = is ∙ all_there (nat_le (length first) (length into)) (first ++ drop (length first) into) into (sym told ∙ done);
}

pub kept_so : (first into into_now : List ℕ) (answer : Answer) → answer ≡ answer_copying first into → into_now ≡ copied first into → answer ≢ Done → into_now ≡ into
kept_so first into into_now answer told is refused =
    is ∙ as_before (nat_le (length first) (length into)) (first ++ drop (length first) into) into (λ done. refused (told ∙ done))
