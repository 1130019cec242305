-- What a cut of the power leaves behind writes and syncs.
use Rattle.std.specs.Prelude.{ℕ, List, [], ◌∷◌, ◌++◌, ◌≡◌, ◌⊎◌, Option, Some, None, Bool, true, false, ◌≤◌, length, take, drop, slice_set, refl}
use Rattle.std.proofs.Common.{inl, inr, sym, ap, subst, ◌∙◌, arith}
use Rattle.std.proofs.Math.Seq.{take-length}
use Rattle.std.proofs.lemmas.List.{take-append-le, length-set}
use Rattle.std.proofs.lemmas.List.Elements.{All-set}
use Rattle.patch_model.specs.declared.blocks.TheConstants.{BLOCK}
use Rattle.patch_device.specs.Blocks.{AreWhole}
use Rattle.patch_device.specs.Device.{LandsOrNot, LeavesNoMore, LeavesJust, Elapses}
use Rattle.patch_device.specs.Writes.{after_writes, after_one_more, one_longer}

-- What is done to a device: a write of a block's number and its bytes, or a sync.
abbrev pub Event : Type 0
Event = Option (ℕ × List ℕ)

-- the blocks that last over a cut, and the writes since, each of which may get lost
pub record Cached : Type 0 where
  pub lasting : List (List ℕ)
  pub loose : List (ℕ × List ℕ)

-- a write is loose behind the others; a sync lays all of them on what lasts
abbrev pub after_event : Cached → Event → Cached
after_event state (Some w) = record { lasting = state.lasting; loose = state.loose ++ w ∷ [] }
after_event state None = record { lasting = after_writes state.lasting state.loose; loose = [] }

abbrev pub after_events : Cached → List Event → Cached
after_events state [] = state
after_events state (e ∷ es) = after_events (after_event state e) es

-- the same of blocks all of which last at first
abbrev pub cached_behind : (first : List (List ℕ)) → List Event → Cached
cached_behind first events = after_events (record { lasting = first; loose = [] }) events

-- some of these writes have landed on the blocks, in their order
abbrev pub MayLand : (blocks : List (List ℕ)) → List (ℕ × List ℕ) → (disk : List (List ℕ)) → Type 0
MayLand blocks [] disk = disk ≡ blocks
MayLand blocks (w ∷ ws) disk = MayLand blocks ws disk ⊎ MayLand (slice_set blocks w.0 w.1) ws disk

-- which of the loose writes may have landed is open
abbrev pub MayBeLeft : Cached → (disk : List (List ℕ)) → Type 0
MayBeLeft state disk = MayLand state.lasting state.loose disk

-- what a cut may leave behind so many of these events,
abbrev pub left_behind : (first : List (List ℕ)) → List Event → ℕ → List (List ℕ) → Type 0
left_behind first events t disk = MayBeLeft (cached_behind first (take t events)) disk

-- and what is there as long as nothing is cut: all that was written
abbrev pub all_of : Cached → List (List ℕ)
all_of state = after_writes state.lasting state.loose

abbrev pub written_behind : (first : List (List ℕ)) → List Event → List (List ℕ)
written_behind first events = all_of (cached_behind first events)

-- What a cut leaves behind so many of these events where each write lasts at once.
abbrev pub left_at_once : (first : List (List ℕ)) → List Event → ℕ → List (List ℕ) → Type 0
left_at_once first events t disk = disk ≡ written_behind first (take t events)

-- the blocks with those of these writes that are said to land; one of which nothing is said doesn't
abbrev pub with_landed : (blocks : List (List ℕ)) → List (ℕ × List ℕ) → (lands : List Bool) → List (List ℕ)
with_landed blocks [] lands = blocks
with_landed blocks (w ∷ ws) [] = blocks
with_landed blocks (w ∷ ws) (true ∷ lands) = with_landed (slice_set blocks w.0 w.1) ws lands
with_landed blocks (w ∷ ws) (false ∷ lands) = with_landed blocks ws lands

-- the writes among some events
abbrev pub writes_among : List Event → List (ℕ × List ℕ)
writes_among [] = []
writes_among (Some w ∷ es) = w ∷ writes_among es
writes_among (None ∷ es) = writes_among es

-- behind so many of the events there was the last sync
pub record IsSyncedAt (first : List (List ℕ)) (events : List Event) (synced : ℕ) : Type 0 where
  pub within : synced ≤ length events
  pub lasting : written_behind first (take synced events) ≡ (cached_behind first events).lasting
  pub loose : writes_among (drop synced events) ≡ (cached_behind first events).loose

-- none may have landed
pub none_landed : (blocks : List (List ℕ)) (ws : List (ℕ × List ℕ)) → MayLand blocks ws blocks
none_landed blocks [] = refl
none_landed blocks (w ∷ ws) = inl (none_landed blocks ws)

-- so some of them have landed
pub some_landed : (blocks : List (List ℕ)) (ws : List (ℕ × List ℕ)) (lands : List Bool) → MayLand blocks ws (with_landed blocks ws lands)
some_landed blocks [] lands = refl
some_landed blocks (w ∷ ws) [] = inl (none_landed blocks ws)
some_landed blocks (w ∷ ws) (true ∷ lands) = inr (some_landed (slice_set blocks w.0 w.1) ws lands)
some_landed blocks (w ∷ ws) (false ∷ lands) = inl (some_landed blocks ws lands)

-- all may have landed
pub all_landed : (blocks : List (List ℕ)) (ws : List (ℕ × List ℕ)) → MayLand blocks ws (after_writes blocks ws)
all_landed blocks [] = refl
all_landed blocks (w ∷ ws) = inr (all_landed (slice_set blocks w.0 w.1) ws)

-- one event more
pub after_event_more : (state : Cached) (es : List Event) (e : Event) → after_events state (es ++ e ∷ []) ≡ after_event (after_events state es) e
after_event_more state [] e = refl
after_event_more state (x ∷ es) e = after_event_more (after_event state x) es e

pub cached_more : (first : List (List ℕ)) (es : List Event) (e : Event) → cached_behind first (es ++ e ∷ []) ≡ after_event (cached_behind first es) e
cached_more first es e = after_event_more (record { lasting = first; loose = [] }) es e

-- behind a write more there is what was there, with it
pub written_more : (first : List (List ℕ)) (es : List Event) (w : ℕ × List ℕ) → written_behind first (es ++ Some w ∷ []) ≡ slice_set (written_behind first es) w.0 w.1
written_more first es w =
    ap all_of (cached_more first es (Some w)) ∙ after_one_more (cached_behind first es).lasting (cached_behind first es).loose w

-- and behind a sync just what was there
pub written_synced : (first : List (List ℕ)) (es : List Event) → written_behind first (es ++ None ∷ []) ≡ written_behind first es
written_synced first es = ap all_of (cached_more first es None)

-- the blocks stay as many
pub counted_more : (first : List (List ℕ)) (es : List Event) (w : ℕ × List ℕ) → length (written_behind first (es ++ Some w ∷ [])) ≡ length (written_behind first es)
counted_more first es w = ap length (written_more first es w) ∙ length-set (written_behind first es) w.0 w.1

-- and whole
pub whole_more : (first : List (List ℕ)) (es : List Event) (w : ℕ × List ℕ) → length w.1 ≡ BLOCK → AreWhole (written_behind first es)
    → AreWhole (written_behind first (es ++ Some w ∷ []))
whole_more first es w long whole =
    subst AreWhole (sym (written_more first es w)) (All-set (λ block. length block ≡ BLOCK) (written_behind first es) w.0 w.1 long whole)

-- what is left at this moment
pub left_now : (first : List (List ℕ)) (es : List Event) → left_behind first es (length es) ≡ MayBeLeft (cached_behind first es)
left_now first es = ap (λ (done : List Event). MayBeLeft (cached_behind first done)) (take-length es)

-- Of the moments before an event more it stays what was left at them.
pub elapses_behind : (first : List (List ℕ)) (es : List Event) (e : Event)
    → Elapses (length es) (length (es ++ e ∷ [])) (left_behind first es) (left_behind first (es ++ e ∷ []))
elapses_behind first es e = record {
  later = let long = one_longer es e in omega (arith, long);
  past = λ t disk known.
      let same : take t (es ++ e ∷ []) ≡ take t es = take-append-le t es (e ∷ []) known in (
        λ h. subst (λ (done : List Event). MayBeLeft (cached_behind first done) disk) (sym same) h,
        λ h. subst (λ (done : List Event). MayBeLeft (cached_behind first done) disk) same h,
      );
}

-- one loose write more has landed or not
pub lands_more : (blocks : List (List ℕ)) (ws : List (ℕ × List ℕ)) (w : ℕ × List ℕ) → LandsOrNot (MayLand blocks ws) w.0 w.1 (MayLand blocks (ws ++ w ∷ []))
lands_more blocks [] w disk (inl h) = (blocks, refl, inl h)
lands_more blocks [] w disk (inr h) = (blocks, refl, inr h)
lands_more blocks (v ∷ ws) w disk (inl h) = let found = lands_more blocks ws w disk h in (found.0, inl found.1, found.2)
lands_more blocks (v ∷ ws) w disk (inr h) = let found = lands_more (slice_set blocks v.0 v.1) ws w disk h in (found.0, inr found.1, found.2)

pub lands_behind : (first : List (List ℕ)) (es : List Event) (w : ℕ × List ℕ)
    → LandsOrNot (left_behind first es (length es)) w.0 w.1 (left_behind first (es ++ Some w ∷ []) (length (es ++ Some w ∷ [])))
lands_behind first es w =
    subst (λ (before : List (List ℕ) → Type 0). LandsOrNot before w.0 w.1 (left_behind first (es ++ Some w ∷ []) (length (es ++ Some w ∷ []))))
    (sym (left_now first es))
    (subst (λ (now : List (List ℕ) → Type 0). LandsOrNot (MayBeLeft (cached_behind first es)) w.0 w.1 now)
    (sym (left_now first (es ++ Some w ∷ []) ∙ ap MayBeLeft (cached_more first es (Some w))))
    (lands_more (cached_behind first es).lasting (cached_behind first es).loose w))

-- behind a sync a cut leaves what was written, and nothing else
pub left_synced : (first : List (List ℕ)) (es : List Event)
    → left_behind first (es ++ None ∷ []) (length (es ++ None ∷ [])) ≡ MayBeLeft (after_event (cached_behind first es) None)
left_synced first es = left_now first (es ++ None ∷ []) ∙ ap MayBeLeft (cached_more first es None)

pub lasts_behind : (first : List (List ℕ)) (es : List Event)
    → LeavesJust (written_behind first es) (left_behind first (es ++ None ∷ []) (length (es ++ None ∷ [])))
lasts_behind first es disk left = subst (λ (now : List (List ℕ) → Type 0). now disk) (left_synced first es) left

-- which it might have left before
pub no_more_behind : (first : List (List ℕ)) (es : List Event)
    → LeavesNoMore (left_behind first es (length es)) (left_behind first (es ++ None ∷ []) (length (es ++ None ∷ [])))
no_more_behind first es disk left =
    subst (λ (before : List (List ℕ) → Type 0). before disk) (sym (left_now first es))
    (subst (MayBeLeft (cached_behind first es)) (sym (lasts_behind first es disk left))
    (all_landed (cached_behind first es).lasting (cached_behind first es).loose))

-- all that was written may have landed
pub all_land_behind : (first : List (List ℕ)) (es : List Event) → left_behind first es (length es) (written_behind first es)
all_land_behind first es =
    subst (λ (now : List (List ℕ) → Type 0). now (written_behind first es)) (sym (left_now first es))
    (all_landed (cached_behind first es).lasting (cached_behind first es).loose)

-- The same where each write lasts at once.
pub now_at_once : (first : List (List ℕ)) (es : List Event) → written_behind first (take (length es) es) ≡ written_behind first es
now_at_once first es = ap (written_behind first) (take-length es)

pub elapses_at_once : (first : List (List ℕ)) (es : List Event) (e : Event)
    → Elapses (length es) (length (es ++ e ∷ [])) (left_at_once first es) (left_at_once first (es ++ e ∷ []))
elapses_at_once first es e = record {
  later = let long = one_longer es e in omega (arith, long);
  past = λ t disk known.
      let same : written_behind first (take t (es ++ e ∷ [])) ≡ written_behind first (take t es) = ap (written_behind first) (take-append-le t es (e ∷ []) known) in
      (λ h. h ∙ sym same, λ h. h ∙ same);
}

pub lands_at_once : (first : List (List ℕ)) (es : List Event) (w : ℕ × List ℕ)
    → LandsOrNot (left_at_once first es (length es)) w.0 w.1 (left_at_once first (es ++ Some w ∷ []) (length (es ++ Some w ∷ [])))
lands_at_once first es w disk left = (
  written_behind first (take (length es) es),
  refl,
  inr (left ∙ now_at_once first (es ++ Some w ∷ []) ∙ written_more first es w ∙ ap (λ b. slice_set b w.0 w.1) (sym (now_at_once first es))),
)

pub lasts_at_once : (first : List (List ℕ)) (es : List Event) → LeavesJust (written_behind first es) (left_at_once first es (length es))
lasts_at_once first es disk left = left ∙ now_at_once first es

pub all_land_at_once : (first : List (List ℕ)) (es : List Event) → left_at_once first es (length es) (written_behind first es)
all_land_at_once first es = sym (now_at_once first es)

-- With syncs that let what was written last, or with each write that lasts at once.
abbrev pub left_of : (synced : Bool) → (first : List (List ℕ)) → List Event → ℕ → List (List ℕ) → Type 0
left_of true first events = left_behind first events
left_of false first events = left_at_once first events

pub elapses_of : (synced : Bool) (first : List (List ℕ)) (es : List Event) (e : Event)
    → Elapses (length es) (length (es ++ e ∷ [])) (left_of synced first es) (left_of synced first (es ++ e ∷ []))
elapses_of true first es e = elapses_behind first es e
elapses_of false first es e = elapses_at_once first es e

pub lands_of : (synced : Bool) (first : List (List ℕ)) (es : List Event) (w : ℕ × List ℕ)
    → LandsOrNot (left_of synced first es (length es)) w.0 w.1 (left_of synced first (es ++ Some w ∷ []) (length (es ++ Some w ∷ [])))
lands_of true first es w = lands_behind first es w
lands_of false first es w = lands_at_once first es w

pub all_land_of : (synced : Bool) (first : List (List ℕ)) (es : List Event) → left_of synced first es (length es) (written_behind first es)
all_land_of true first es = all_land_behind first es
all_land_of false first es = all_land_at_once first es
