use Rattle.std.proofs.Common.{◌∙◌, ◌≡◌, false, inl, inr}
use Rattle.std.proofs.lemmas.Bool.{both_ways, cases_Bool}
use Rattle.patch_model.specs.State.{state_of, has_flight}
use Rattle.patch_cache.proofs.Clean.{flying_is_live}
use Rattle.patch_cache.proofs.laws.clean_blocks_are_held.Goals as goal

pub returns : goal.returns
returns c = λ run contents block legal holds known clean.
    let still : has_flight (state_of run) block ≡ false = elim (cases_Bool (has_flight (state_of run) block)) [
      | inl flies ↦ absurd (both_ways _ (flying_is_live run block (c.flights_are_single.ensures.holds run block legal flies)) clean)
      | inr not ↦ not
    ] in
    holds.images block known still ∙ c.clean_blocks_are_images.ensures.block run block clean
