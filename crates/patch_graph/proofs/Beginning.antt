-- A graph of no patches.
use Rattle.std.proofs.Common.{[], refl, arith}
use Rattle.patch_graph.specs.Meaning.{IsGraphOf}
use Rattle.patch_graph.specs.State.{KeysFit}

pub begins : IsGraphOf (record { made = 0; slots = []; numbers = []; tops = [] }) []
begins = record {
  orderly = record {
    rising = tt;
    apart = λ e f i j s. absurd (let h = i.1 in omega arith);
    filled = λ e i. absurd (let h = i.1 in omega arith);
    fits = λ e i. absurd (let h = i.1 in omega arith);
    earlier = λ e n i t. absurd (let h = i.1 in omega arith);
    alike = λ e f i j s. absurd (let h = i.1 in omega arith);
    least = λ e i. absurd (let h = i.1 in omega arith);
    own = λ e i. absurd (let h = i.1 in omega arith);
    under = λ e f i j d. absurd (let h = i.1 in omega arith);
  };
  numbered = record { below = λ e i. absurd (let h = i.1 in omega arith); made = λ n h. absurd (omega arith) };
  made = refl;
  classes = λ key c at. absurd (cc);
  found = λ e i alive. absurd i;
  live = λ n key at. absurd (cc);
  tops = λ block x f i w. absurd i;
}

pub fits-nothing : KeysFit [] 0
fits-nothing key c at = absurd (cc)
