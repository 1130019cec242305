-- What well made changes leave of a ledger, and what blocks that are read say.
use Rattle.std.proofs.Common.{◌≡◌, true, [], refl, subst}
use Rattle.patch_recovery.specs.Ledger.{after_those, after_all}
use Rattle.patch_recovery.specs.Right.{IsSound}
use Rattle.patch_recovery.specs.Said.{last_said}
use Rattle.patch_recovery.specs.Lasting.{Tells, LedgersLast, ReadBlocksAreSound}
use Rattle.patch_recovery.proofs.Held.{right_of}
use Rattle.patch_recovery.proofs.Widening.{shape_all}
use Rattle.patch_recovery.proofs.Sound.{sound_those}
use Rattle.patch_recovery.proofs.LastSaid.{tells_those}
use Rattle.patch_recovery.proofs.Closing.{all_held, those_are_all}
use Rattle.patch_recovery.proofs.Opening.{opened}

pub ledgers_last : LedgersLast
ledgers_last first made sound well =
    let right = right_of first made well in
    let same : after_those (λ n. true) first made ≡ after_all first made =
    those_are_all (λ n. true) first made (λ n less. refl) in
    record {
      geometry = shape_all first made right;
      sound = subst IsSound same (sound_those (λ n. true) first made sound right (all_held first made));
      tells = subst (λ l. Tells l (last_said (λ n. true) first made)) same
          (tells_those (λ n. true) first made sound right (all_held first made));
    }

pub read_blocks_are_sound : ReadBlocksAreSound
read_blocks_are_sound blocks l long read =
    let start = opened blocks l (λ b less. long b [] less) read in
    record {
      valid = start.valid;
      count = start.shows.count;
      points = start.shows.points;
      padding = start.shows.padding;
      sound = start.sound;
    }
