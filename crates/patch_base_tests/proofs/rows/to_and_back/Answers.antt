use Rattle.std.proofs.Common.{[], ◌∷◌, refl}
use Rattle.patch_model.specs.History.{history_of}
use Rattle.patch_model.specs.Rows.{overlapping}
use Rattle.patch_base_tests.proofs.rows.to_and_back.Goals as goal

pub returns : goal.returns
returns c = record {
  permitted = (
    refl,
    (c.holding_is_tested.ensures (history_of overlapping 0) (1 ∷ [])).0 refl,
    (
      refl,
      (c.holding_is_tested.ensures (history_of overlapping 0) (0 ∷ 1 ∷ [])).0 refl,
      (
        refl,
        (c.holding_is_tested.ensures (history_of overlapping 0) (1 ∷ [])).0 refl,
        (refl, (c.holding_is_tested.ensures (history_of overlapping 0) []).0 refl, tt),
      ),
    ),
  );
}
