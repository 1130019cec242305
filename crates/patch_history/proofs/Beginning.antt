-- Histories, some events shorter.
use Rattle.std.proofs.Common.{List, [], ◌∷◌, ◌++◌, ℕ, length, subst}
use Rattle.std.specs.Prelude.{flat_map}
use Rattle.std.proofs.lemmas.Grind.{flat_map-append}
use Rattle.patch_model.specs.Step.{Step}
use Rattle.patch_model.specs.State.{State, after_step, at_first}
use Rattle.patch_model.specs.Legal.{AreLegal}
use Rattle.patch_history.specs.StoreState.{Standing, at_opening}
use Rattle.patch_history.specs.History.{Event, steps_in, steps_of, AreRight, after_event}
use Rattle.patch_history.specs.Laws.{HistoriesBegin}

legal-first : (blocks : ℕ) (st : State) (steps later : List Step) → AreLegal blocks st (steps ++ later)
    → AreLegal blocks st steps
legal-first blocks st [] later legal = tt
legal-first blocks st (step ∷ steps) later legal =
    (legal.0, legal-first blocks (after_step st step) steps later legal.1)

right-first : (st : Standing) (events later : List Event) → AreRight st (events ++ later) → AreRight st events
right-first st [] later right = tt
right-first st (event ∷ events) later right = (right.0, right-first (after_event st event) events later right.1)

pub histories_begin : HistoriesBegin
histories_begin h later l = record {
  bytes = l.bytes;
  reads = l.reads;
  legal = record {
    some = l.legal.some;
    few = l.legal.few;
    blocks = l.legal.blocks;
    steps =
        legal-first (length h.opening) at_first (steps_of h) (flat_map steps_in later)
        (subst (AreLegal (length h.opening) at_first) (flat_map-append steps_in h.events later) l.legal.steps);
  };
  right = right-first (at_opening h.opening h.first) h.events later l.right;
}
