-- The end of an input, and the last line of a replay that fails.
use Rattle.std.proofs.Common.{◌≡◌, ◌<◌, ◌∙◌, inl, inr, ℕ, List, [], ◌++◌, Bool, true, false, Option, Some, None, length, take, sym, ap, arith}
use Rattle.std.specs.Prelude.{IfSome}
use Rattle.std.specs.Io.KnownBytes.{Consumes, IsAtEnd}
use Rattle.std.proofs.lemmas.List.{append-nil}
use Rattle.patch_script.specs.declared.scripts.TheConstants.{MAX_BYTES}
use Rattle.patch_replay.specs.Replay.{HasRead}
use Rattle.patch_replay.specs.Streams.{Takes, IsToldLast}
use Rattle.patch_replay.specs.declared.endings.Status.{Status}
use Rattle.patch_replay.specs.declared.endings.Status.TheVariants.{OutOfMemory}
use Rattle.patch_replay.specs.declared.streams.Sink.{Sink}

-- nothing was left where a read gives nothing
none_left : (rest new : List ℕ) (bytes : List ℕ) (n : ℕ) → n ≡ 0 → rest ≡ take n bytes ++ new → new ≡ [] → rest ≡ []
none_left rest new bytes n none is end = is ∙ ap (λ k. take k bytes ++ new) none ∙ end

-- what a read that ends an input has taken
ends : (now new : Option (List ℕ)) (read : Option ℕ) (n : ℕ) (bytes : List ℕ) → read ≡ Some n → Takes now new read bytes
    → Consumes now new (take n bytes) × (n ≡ 0 → 0 < length bytes → IsAtEnd new)
ends now new None n bytes is gives = absurd (cc)
ends now new (Some m) n bytes is gives = let same : m ≡ n = cc in rw (sym same) gives

-- all that there was is what was read
pub all_read : (input now new : Option (List ℕ)) (over : Bool) (script bytes : List ℕ) (read : Option ℕ) (n : ℕ) → over ≡ false → HasRead input now over script
    → read ≡ Some n → n ≡ 0 → 0 < length bytes → Takes now new read bytes → IfSome input (λ text. script ≡ text)
all_read input now new over script bytes read n is so_far some none room gives = by input now new over is so_far (ends now new read n bytes some gives)
  where
    by : (input now new : Option (List ℕ)) (over : Bool) → over ≡ false → HasRead input now over script → Consumes now new (take n bytes) × (n ≡ 0 → 0 < length bytes → IsAtEnd new)
        → IfSome input (λ text. script ≡ text)
    by None now new over is so_far gives = tt
    by (Some input) None new over is so_far gives = absurd so_far
    by (Some input) (Some rest) None over is so_far gives = absurd (gives.0)
    by (Some input) (Some rest) (Some new) true is so_far gives = absurd (cc)
    by (Some input) (Some rest) (Some new) false is so_far gives =
        sym (append-nil script) ∙ ap (λ r. script ++ r) (sym (none_left rest new bytes n none gives.0 (gives.1 none room))) ∙ so_far

-- more than a script may have was read
pub too_much : (input now : Option (List ℕ)) (over : Bool) (script : List ℕ) → over ≡ true → HasRead input now over script → IfSome input (λ text. MAX_BYTES < length text)
too_much None now over script is so_far = tt
too_much (Some input) None over script is so_far = absurd so_far
too_much (Some input) (Some rest) false script is so_far = absurd (cc)
too_much (Some input) (Some rest) true script is so_far = omega (arith, so_far)

-- what is told where memory ran out
pub told_text : {W : Type 0} (old new : Sink W) (status : Status) (Text Out : Type 0) → IsToldLast old new OutOfMemory status Text Out → status ≡ OutOfMemory → Text
told_text old new status Text Out (inl failed) is = absurd (cc)
told_text old new status Text Out (inr told) is = told.2
