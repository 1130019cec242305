-- How a put goes that wins room back, at need and ahead of it.
use Rattle.std.specs.Prelude.{ℕ, Bool, true, false, None, ◌≡◌, ◌≢◌, ◌+◌, ◌≤◌, ◌⊎◌, List, [], ◌∷◌, ◌++◌, length, flat_map}
use Rattle.patch_model.specs.declared.refusals.RefusalKind.TheVariants as kind
use Rattle.patch_model.specs.Refusing.{bare}
use Rattle.patch_model.specs.Step.{Step}
use Rattle.patch_frame.specs.Frame.{Content, length_of}
use Rattle.patch_history.specs.declared.refusals.PutRefusal.{PutRefusal}
use Rattle.patch_history.specs.declared.refusals.PutRefusal.TheVariants as put
use Rattle.patch_history.specs.declared.refusals.ReclaimRefusal.{ReclaimRefusal}
use Rattle.patch_history.specs.declared.refusals.ReclaimRefusal.TheVariants as reclaim
use Rattle.patch_frame.specs.Geometry.{value_limit}
use Rattle.patch_history.specs.Choosing.{slot_for}
use Rattle.patch_history.specs.Command.{Command, Reply, Put, Reclaim, Done, Refused, is_refused}
use Rattle.patch_history.specs.History.{History, Event, Call, standing_of, steps_in}
use Rattle.patch_history.specs.Map.{after_reply}
use Rattle.patch_history.specs.Refusing.{why_no_key, reply_of}
use Rattle.patch_history.specs.Shelf.{Shelf}
use Rattle.patch_history.specs.StoreState.{Standing}
use Rattle.patch_store.specs.Meaning.{Store, IsStoreOf, HasGained}
use Rattle.patch_store.specs.Running.{with_calls}
use Rattle.patch_room.specs.Ahead.{GoesAhead}
use Rattle.patch_room.specs.Laws.{shelf_in, with_reclaim}
use Rattle.patch_room.specs.Room.{extent_bytes, live_in, IsCheapest, NoneWorthWinning}

-- the extent that is won back next, whose live bytes leave room for so many more
pub record IsVictim (s : Shelf) (len extent : ℕ) : Type 0 where
  pub cheapest : IsCheapest s extent
  pub fits : live_in s extent + len ≤ extent_bytes s

-- an extent that was won back, and the steps of its reclaim
pub record Won : Type 0 where
  pub extent : ℕ
  pub steps : List Step

-- The put finds no extent as the store stands, and this is the one to win back for it.
pub record IsNeeded (h : History) (writer : ℕ) (c : Content) (extent : ℕ) : Type 0 where
  pub no_space : reply_of (standing_of h) writer (Put c.key c.value) ≡ Refused (bare kind.NoSpace)
  pub victim : IsVictim (shelf_in h) (length_of c) extent

-- so it is where each of these was reclaimed, and where the last call is a reclaim
abbrev pub AreNeeded : History → (writer : ℕ) → Content → List Won → (last : Command) → Type 0
AreNeeded h writer c [] (Reclaim extent) = IsNeeded h writer c extent
AreNeeded h writer c [] _ = Unit {0}
AreNeeded h writer c (w ∷ won) last =
    IsNeeded h writer c w.extent × AreNeeded (with_reclaim h writer w.extent w.steps) writer c won last

-- their reclaims, each of which was done
abbrev pub reclaims : (writer : ℕ) → List Won → List Event
reclaims writer [] = []
reclaims writer (w ∷ won) = Call writer (Reclaim w.extent) Done w.steps ∷ reclaims writer won

-- the last call is that of the put, or of a reclaim that was refused, and so the put with it
abbrev pub IsLast : Content → Reply → Command → Type 0
IsLast c reply command =
    (command ≡ Put c.key c.value) ⊎ ((extent : ℕ) × (command ≡ Reclaim extent) × (is_refused reply ≡ true))

-- all of the calls
abbrev pub calls_in : (writer : ℕ) → List Won → Command → Reply → List Step → List Event
calls_in writer won last reply steps = reclaims writer won ++ Call writer last reply steps ∷ []

-- Of a put: the extents that were won back for it, so many at most, and its last call.
pub record AtNeed (h : History) (most writer : ℕ) (c : Content) (reply : Reply) : Type 0 where
  pub won : List Won
  pub few : length won ≤ most
  pub last : Command
  pub last_is : IsLast c reply last
  pub needed : AreNeeded h writer c won last
  pub steps : List Step

-- its calls
abbrev pub calls_at_need : {h : History} {most writer : ℕ} {c : Content} {reply : Reply} → AtNeed h most writer c reply → List Event
calls_at_need {h} {most} {writer} {c} {reply} need = calls_in writer need.won need.last reply need.steps

-- The put has its reply with these calls alone: the store represents the history with them at its end, the trace has their steps,
-- and the map is as the put leaves it.
pub record HasPutAtNeed (h : History) (most writer : ℕ) (c : Content) (reply : Reply) (old new : Store) : Type 0 where
  pub need : AtNeed h most writer c reply
  pub represents : IsStoreOf new (with_calls h (calls_at_need need))
  pub trace_is : new.cache.trace ≡ old.cache.trace ++ flat_map steps_in (calls_at_need need)
  pub map_is : (standing_of (with_calls h (calls_at_need need))).map ≡ after_reply (standing_of h).map (Put c.key c.value) reply

-- so it is behind each history that the store represented
abbrev pub PutsAtNeed : (most writer : ℕ) → Content → Reply → (old new : Store) → Type 0
PutsAtNeed most writer c reply old new = (h : History) → IsStoreOf old h → HasPutAtNeed h most writer c reply old new

-- The calls of a put: those at need, and behind a put that was done one that moves frames ahead, where it is time. With them the map
-- is as the put alone leaves it.
pub record IsPut (h : History) (most writer : ℕ) (c : Content) (reply : Reply) (calls : List Event) : Type 0 where
  pub need : AtNeed h most writer c reply
  pub ahead : List Event
  pub ahead_is : GoesAhead (with_calls h (calls_at_need need)) writer reply ahead
  pub calls_are : calls ≡ calls_at_need need ++ ahead
  pub map_is : (standing_of (with_calls h calls)).map ≡ after_reply (standing_of h).map (Put c.key c.value) reply

-- the store represents the history with these calls at its end, and the trace has their steps
pub record HasPut (h : History) (most writer : ℕ) (c : Content) (reply : Reply) (old new : Store) : Type 0 where
  pub calls : List Event
  pub put : IsPut h most writer c reply calls
  pub represents : IsStoreOf new (with_calls h calls)
  pub trace_is : new.cache.trace ≡ old.cache.trace ++ flat_map steps_in calls

-- so it is behind each history that the store represented
abbrev pub PutsInRoom : (most writer : ℕ) → Content → Reply → (old new : Store) → Type 0
PutsInRoom most writer c reply old new = (h : History) → IsStoreOf old h → HasPut h most writer c reply old new

-- The key and the value may be such, and there is a slot for the key: a put is judged by its room alone.
pub record MayBePut (st : Standing) (c : Content) : Type 0 where
  pub key : why_no_key c.key ≡ None
  pub value : length c.value ≤ value_limit st.map.format
  pub slot : slot_for st.shelf c.key ≢ None

-- a refusal for want of room: on the disk, for patches, or in memory
abbrev pub wants_room : PutRefusal → Bool
wants_room put.NoSpace = true
wants_room put.NumbersSpent = true
wants_room put.TooManyLive = true
wants_room put.OutOfMemory = true
wants_room _ = false

-- An extent that is to be won back.

-- none was worth it, and nothing has happened
pub record WonNothing (len : ℕ) (reply : Reply) (old new : Store) : Type 0 where
  pub reply_is : reply ≡ Refused (bare kind.NoSpace)
  pub none : NoneWorthWinning old.shelf len
  pub same : new ≡ old

-- or the right one was reclaimed, with this reply
pub record HasReclaimed (h : History) (writer len : ℕ) (reply : Reply) (old new : Store) : Type 0 where
  pub extent : ℕ
  pub victim : IsVictim (shelf_in h) len extent
  pub steps : List Step
  pub gained : HasGained h (Call writer (Reclaim extent) reply steps) old new

abbrev pub WinsBack : (len : ℕ) → Reply → (old new : Store) → Type 0
WinsBack len reply old new =
    (h : History) (writer : ℕ) → IsStoreOf old h → WonNothing len reply old new ⊎ HasReclaimed h writer len reply old new

-- the refusal of a put whose reclaim is refused; the causes without a name of the put's own don't come up
abbrev pub as_put : ReclaimRefusal → PutRefusal
as_put reclaim.NumbersSpent = put.NumbersSpent
as_put reclaim.TooManyLive = put.TooManyLive
as_put reclaim.OutOfMemory = put.OutOfMemory
as_put _ = put.NoSpace
