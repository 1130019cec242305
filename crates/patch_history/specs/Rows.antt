-- Short scripts of commands on a new disk, with their replies.
use Rattle.std.specs.Prelude.{ℕ, ◌==◌, if◌then◌else◌, List, [], ◌∷◌, ◌++◌, length, map, sum_by, replicate, reverse, Some, None}
use Rattle.std.specs.List.{range_with_len}
use Rattle.patch_model.specs.Step.{Step}
use Rattle.patch_frame.specs.declared.geometries.Format.{Format}
use Rattle.patch_frame.specs.declared.geometries.Format.TheVariants.{One, Two}
use Rattle.patch_plans.specs.Groups.{no_groups}
use Rattle.patch_recovery.specs.Ledger.{Ledger}
use Rattle.patch_plans.specs.Extents.{no_extent, generation_at, offset_at}
use Rattle.patch_plans.specs.Writing.{Written, written, steps_by}
use Rattle.patch_model.specs.declared.refusals.RefusalKind.{RefusalKind}
use Rattle.patch_model.specs.Refusing.{bare}
use Rattle.patch_model.specs.Step.{Send}
use Rattle.patch_history.specs.Command.{Command, Put, Get, Delete, Reclaim, Upgrade, Group, Engage, Disengage, Depend}
use Rattle.patch_history.specs.Command.{CloseGroup, Pending, Reply, Done, Value, Refused, is_refused}
use Rattle.patch_history.specs.Choosing.{live_frames}
use Rattle.patch_history.specs.StoreState.{Standing, made_by, plan_of, after_call}
use Rattle.patch_history.specs.Refusing.{reply_of}
use Rattle.patch_history.specs.History.{Event, Call, Moved, History, calls_of}

-- A new disk with so many slots and extents: a few of the slots are enough for a short script.
abbrev pub new_disk_of : Format → (slots extents : ℕ) → Standing
new_disk_of format slots extents = record {
  run = record { first = []; steps = [] };
  groups = no_groups;
  shelf = record {
    extents = record {
      geometry = record { index = 1; extents = extents; format = format };
      each = replicate extents no_extent;
    };
    slots = replicate slots None;
    current = None;
    last_delete = None;
    upgrade = None;
    left = replicate extents [];
  };
  map = record { format = format; entries = [] };
  made = [];
}

-- of version 1
abbrev pub new_disk : (slots extents : ℕ) → Standing
new_disk slots extents = new_disk_of One slots extents

-- with extents of one block, shorter than there are: so that long values are short
abbrev pub short_disk : (slots extents : ℕ) → Standing
short_disk slots extents = new_disk_of (Two 1) slots extents

-- the steps of a command of this writer with this reply, without merges
abbrev pub steps_for : Standing → (writer : ℕ) → Command → Reply → List Step
steps_for st writer command reply =
    if is_refused reply then []
    else steps_by [] (written st.shelf.extents (made_by st) (plan_of st writer command))

abbrev pub replied : Standing → (writer : ℕ) → Command → Reply → Standing
replied st writer command reply = after_call st writer command reply (steps_for st writer command reply)

-- the writer asks this, and there is memory
abbrev pub asked : Standing → (writer : ℕ) → Command → Standing
asked st writer command = replied st writer command (reply_of st writer command)

-- the replies to some commands of the writer 0
abbrev pub replies : Standing → List Command → List Reply
replies st [] = []
replies st (command ∷ commands) = reply_of st 0 command ∷ replies (asked st 0 command) commands

abbrev pub after_commands : Standing → List Command → Standing
after_commands st [] = st
after_commands st (command ∷ commands) = after_commands (asked st 0 command) commands

-- their calls
abbrev pub calls_for : Standing → List Command → List Event
calls_for st [] = []
calls_for st (command ∷ commands) =
    let reply = reply_of st 0 command in
    Call 0 command reply (steps_for st 0 command reply) ∷ calls_for (asked st 0 command) commands

-- of each extent its generation, its pointer, and how many live bytes it has
abbrev pub extents_of : Standing → List (ℕ × ℕ × ℕ)
extents_of st =
    map (λ e. (
      generation_at st.shelf.extents e,
      offset_at st.shelf.extents e,
      sum_by (λ f. f.1.length) (live_frames st.shelf e),
    )) (range_with_len 0 st.shelf.extents.geometry.extents)

-- of each key the length of its value
abbrev pub lengths_of : Standing → List (List ℕ × ℕ)
lengths_of st = map (λ c. (c.key, length c.value)) st.map.entries

-- the slots that name an extent, in order of their frames
abbrev pub live_slots : Standing → ℕ → List ℕ
live_slots st extent = map (λ f. f.0) (live_frames st.shelf extent)

-- so many bytes
abbrev pub bytes : ℕ → List ℕ
bytes n = replicate n 7

-- the patches that each patch names, the oldest first
abbrev pub names_of : Standing → List (List ℕ)
names_of st = map (λ m. m.after) (reverse st.made)

abbrev pub key : ℕ → List ℕ
key letter = letter ∷ []

-- a put on a new disk, as it is written
abbrev pub put_written : List Written
put_written = written (new_disk 2 2).shelf.extents 0 (plan_of (new_disk 2 2) 0 (Put (key 107) []))

abbrev pub put_steps : List Step
put_steps = steps_by [] put_written

-- a disk of two extents and two slots, whose pointers are these, and whose second slot names the extent 1
abbrev pub read_with : (first second : ℕ) → Ledger
read_with first second = record {
  geometry = record { index = 1; extents = 2; format = One };
  pointer = λ e. record { generation = 4294967295; offset = if e == 0 then first else second };
  slot = λ s.
      if s == 1
      then Some (record { key = key 107; extent = 1; generation = 4294967295; offset = 0; length = 17 })
      else None;
  byte = λ e place. 0;
}

abbrev pub refused : RefusalKind → Reply
refused kind = Refused (bare kind)

-- Scripts.

abbrev pub put_twice : List Command
put_twice = Put (key 107) (1 ∷ []) ∷ Put (key 107) (2 ∷ []) ∷ []

abbrev pub deleted_twice : List Command
deleted_twice = Put (key 107) [] ∷ Get (key 107) ∷ Delete (key 107) ∷ Get (key 107) ∷ Delete (key 107) ∷ []

abbrev pub long_keys : List Command
long_keys = Put (bytes 32) (1 ∷ []) ∷ Put (bytes 33) [] ∷ Get (bytes 33) ∷ Delete [] ∷ []

abbrev pub long_values : List Command
long_values = Put (key 118) (bytes 4048) ∷ Put (key 119) (bytes 4049) ∷ []

-- three keys for two slots, and the first of them anew
abbrev pub three_keys : List Command
three_keys = Put (key 97) [] ∷ Put (key 98) [] ∷ Put (key 107) [] ∷ Put (key 97) [] ∷ []

-- both slots are emptied, and one is claimed again
abbrev pub claimed_again : List Command
claimed_again = Put (key 98) [] ∷ Put (key 97) [] ∷ Delete (key 98) ∷ Delete (key 97) ∷ Put (key 97) [] ∷ []

-- two values, of which an extent of one block has room for one
abbrev pub two_values : List Command
two_values = Put (key 97) (bytes 2100) ∷ Put (key 98) (bytes 2100) ∷ []

abbrev pub one_reclaimed : List Command
one_reclaimed = two_values ++ Reclaim 0 ∷ []

abbrev pub two_reclaimed : List Command
two_reclaimed = two_values ++ Reclaim 0 ∷ Reclaim 1 ∷ []

abbrev pub three_reclaimed : List Command
three_reclaimed = two_values ++ Reclaim 0 ∷ Reclaim 1 ∷ Reclaim 2 ∷ []

-- an extent without a live frame is reclaimed, and once more
abbrev pub emptied : List Command
emptied = Put (key 107) [] ∷ Delete (key 107) ∷ Reclaim 0 ∷ Reclaim 0 ∷ Put (key 109) (1 ∷ []) ∷ []

-- a key is put twice, and deleted
abbrev pub put_and_deleted : List Command
put_and_deleted = Put (key 107) [] ∷ Put (key 107) [] ∷ Delete (key 107) ∷ []

abbrev pub upgraded_twice : List Command
upgraded_twice = Put (key 107) [] ∷ Upgrade ∷ Upgrade ∷ Put (key 107) [] ∷ []

-- a put in the group 0, behind which there is the group 1
abbrev pub in_order : List Command
in_order = Group ∷ Engage 0 ∷ Put (key 97) [] ∷ Disengage 0 ∷ Group ∷ Depend 1 0 ∷ Engage 1 ∷ []

-- three groups in a chain of two orders, and an order back, which is refused
abbrev pub chained : List Command
chained = Group ∷ Group ∷ Group ∷ Depend 1 0 ∷ Depend 2 1 ∷ Depend 0 2 ∷ []

-- behind two groups in order, calls that are refused, or count
abbrev pub refused_calls : List Command
refused_calls = Engage 0 ∷ Pending 1 ∷ CloseGroup 1 ∷ CloseGroup 2 ∷ []

-- and in the group 1 a delete, with a reclaim
abbrev pub deleted_in_order : List Command
deleted_in_order = in_order ++ Delete (key 97) ∷ Reclaim 0 ∷ []

-- a put and a get with a write begun between them
abbrev pub put_sent_got : History
put_sent_got = record {
  opening = [];
  first = read_with 0 0;
  events = Call 1 (Put (key 107) []) Done put_steps ∷ Moved (Send 3) ∷ Call 0 (Get (key 107)) (Value []) [] ∷ [];
}

-- of each call its writer, and how many steps were made before and after it
abbrev pub counts_of : History → List (ℕ × ℕ × ℕ)
counts_of h = map {B = ℕ × ℕ × ℕ} (λ c. (c.writer, c.before, c.after)) (calls_of h)
