-- What changes say of a key.
use Rattle.std.specs.Prelude.{ℕ, Bool, false, IsTrue, ◌≡◌, ◌&&◌, not, if◌then◌else◌, List, [], ◌∷◌, length, Option}
use Rattle.std.specs.Prelude.{Some, None, Result, Ok, Err}
use Rattle.std.specs.Str.{bytes_eq}
use Rattle.patch_frame.specs.declared.faults.FrameFault.{FrameFault}
use Rattle.patch_frame.specs.Slot.{SlotFields}
use Rattle.patch_frame.specs.Frame.{Content}
use Rattle.patch_recovery.specs.Change.{Change, Fill, Clear, Made}
use Rattle.patch_recovery.specs.Ledger.{Ledger, after_all, frame_named, map_of, value_in}
use Rattle.patch_recovery.specs.Reading.{has_key}

-- the change is of a slot that has the key then, or had it before
abbrev pub speaks_of : List ℕ → Ledger → Change → Bool
speaks_of key l (Fill slot s) = bytes_eq s.key key
speaks_of key l (Clear slot) = has_key key (l.slot slot)
speaks_of key l _ = false

-- the value of a frame that is read
abbrev pub value_read : Result Content FrameFault → Option (List ℕ)
value_read (Ok c) = Some c.value
value_read (Err fault) = None

-- the value that it gives the key, if it gives one
abbrev pub said : Ledger → Change → Option (List ℕ)
said l (Fill slot s) = value_read (frame_named l s)
said l _ = None

-- What the last of the changes whose numbers pass says of a key. A change that only moves an entry says the value that
-- it has. Where none speaks of the key it has its first value.
abbrev pub last_said : (ℕ → Bool) → Ledger → List Made → List ℕ → Option (List ℕ)
last_said keeps first [] key = value_in (map_of first) key
last_said keeps first (made ∷ earlier) key =
    if keeps (length earlier) && speaks_of key (after_all first earlier) made.change
    then said (after_all first earlier) made.change
    else last_said keeps first earlier key

-- a used slot is filled anew and keeps its key's value: an entry is moved
abbrev pub Moves : Ledger → Change → Type 0
Moves l (Fill slot s) =
    (t : SlotFields) × (l.slot slot ≡ Some t) × (value_read (frame_named l s) ≡ value_read (frame_named l t))
Moves l _ = ⊥

-- those of the numbers that pass are of moves
abbrev pub AreMoves : (ℕ → Bool) → Ledger → List Made → Type 0
AreMoves moves first [] = Unit {0}
AreMoves moves first (made ∷ earlier) =
    (IsTrue (moves (length earlier)) → Moves (after_all first earlier) made.change) × AreMoves moves first earlier

-- What a key's last put or delete says that is kept itself, or a later move of which is. Up to the newest kept change
-- of the key, that is what the last one says that is no move.
abbrev pub last_word_kept : (ℕ → Bool) → (ℕ → Bool) → Ledger → List Made → List ℕ → Option (List ℕ)
last_word_kept keeps moves first [] key = value_in (map_of first) key
last_word_kept keeps moves first (made ∷ earlier) key =
    if keeps (length earlier) && speaks_of key (after_all first earlier) made.change
    then last_said (λ number. not (moves number)) first (made ∷ earlier) key
    else last_word_kept keeps moves first earlier key
