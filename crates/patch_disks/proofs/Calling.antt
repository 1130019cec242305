-- One call of a store.
use Rattle.std.proofs.Common.{◌≡◌, ℕ, false, List, refl}
use Rattle.patch_model.specs.declared.refusals.Refusal.{Refusal}
use Rattle.patch_history.specs.declared.commands.Reply.{Reply as CodeReply}
use Rattle.patch_history.specs.declared.commands.Reply.TheVariants as answered
use Rattle.patch_history.specs.Command.{Command, Reply, is_refused}
use Rattle.patch_history.specs.Commands.{reply_told}
use Rattle.patch_history.specs.StoreState.{at_opening}
use Rattle.patch_history.specs.History.{History}
use Rattle.patch_store.specs.Meaning.{Store, Answers}
use Rattle.patch_store.specs.Opening as opening
use Rattle.patch_store.specs.Opening.{IsOpened}
use Rattle.patch_disks.specs.Running.{StandsOn, IsCalled}
use Rattle.patch_disks.proofs.Resting.{StatesExtend, ImagesStay, DisksStay, rests_behind, disks_behind}

-- a store that was just opened has begun no write
pub opened_so : (contents : List (List ℕ)) (store : Store) (o : IsOpened contents store) → StandsOn store (opening.at_opening contents o.ledger) contents
opened_so contents store o = record {
  still = record { represents = o.represents; no_flight = λ block. refl };
  images = record { count = refl; images = λ block known none. refl };
}

-- a call that was answered begins no write
pub called_so : StatesExtend → ImagesStay → DisksStay → (h : History) (writer : ℕ) (command : Command) (reply : Reply) (old new : Store) (contents : List (List ℕ))
    → Answers writer command reply old new → StandsOn old h contents → IsCalled h (writer, command) reply new contents
called_so extend stay disks h writer command reply old new contents answers stands =
    let answered = answers h stands.still.represents in
    let now = answered.gained.represents in
    let rests = rests_behind extend stay h writer command reply answered.steps contents (at_opening h.opening h.first) now.legal.right
    (record { no_flight = stands.still.no_flight; images = stands.images }) in
    record {
      steps = answered.steps;
      stands = record { still = record { represents = now; no_flight = rests.no_flight }; images = rests.images };
      stays = λ disk may. disks_behind disks h writer command reply answered.steps disk (at_opening h.opening h.first) now.legal.right now.legal.legal may;
    }

pub not_refused : {A : Type 0} (reply : CodeReply A) → ((refusal : Refusal) → reply ≡ answered.Refused refusal → ⊥) → is_refused (reply_told reply) ≡ false
not_refused answered.Done not = refl
not_refused (answered.Value bytes) not = refl
not_refused answered.Absent not = refl
not_refused (answered.GroupMade group) not = refl
not_refused (answered.Count count) not = refl
not_refused (answered.Refused refusal) not = absurd (not refusal refl)
