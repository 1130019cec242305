-- A put behind reclaims.
use Rattle.std.proofs.Common.{None, ◌≡◌, ◌≢◌, ℕ, suc, ◌<◌, ◌⊎◌, ◌∙◌, inl, inr, true, false, List, [], ◌∷◌, ◌++◌, length, refl}
use Rattle.std.proofs.Common.{sym, ap, arith, subst}
use Rattle.std.specs.Prelude.{flat_map, Result, Ok, Err, IfErr, ◌^◌}
use Rattle.std.proofs.lemmas.List.{append_assoc, append-nil}
use Rattle.patch_model.specs.Step.{Step}
use Rattle.patch_model.specs.declared.refusals.RefusalKind.TheVariants as kind
use Rattle.patch_model.specs.declared.refusals.Refusal.{Refusal}
use Rattle.patch_model.specs.Refusing.{bare}
use Rattle.patch_frame.specs.Frame.{Content, length_of}
use Rattle.patch_frame.specs.declared.geometries.Format.{Format}
use Rattle.patch_frame.specs.declared.geometries.Format.TheVariants.{One, Two}
use Rattle.patch_frame.specs.Geometry.{IsFormat, largest_pointer}
use Rattle.patch_history.specs.declared.refusals.PutRefusal.{PutRefusal}
use Rattle.patch_history.specs.declared.refusals.PutRefusal.TheVariants as put
use Rattle.patch_history.specs.declared.refusals.ReclaimRefusal.{ReclaimRefusal}
use Rattle.patch_history.specs.declared.refusals.ReclaimRefusal.TheVariants as reclaim
use Rattle.patch_history.specs.Refusals.{put_cause, reclaim_cause}
use Rattle.patch_model.specs.declared.refusals.RefusalKind.{RefusalKind}
use Rattle.patch_store.specs.Replies.{reply_to}
use Rattle.patch_history.specs.Choosing.{empty_extents, extent_for_put}
use Rattle.patch_history.specs.Command.{Put, Reclaim, Reply, Done, Refused, is_refused}
use Rattle.patch_history.specs.History.{History, Event, Call, IsLegalHistory, IsRight, standing_of, steps_in, with_event}
use Rattle.patch_history.specs.Map.{Map, after_reply}
use Rattle.patch_history.specs.StoreState.{Standing}
use Rattle.patch_store.specs.Meaning.{Store, IsStoreOf, HasGained, HasAnswered}
use Rattle.patch_store.specs.Running.{with_calls}
use Rattle.patch_room.specs.Laws.{shelf_in, with_reclaim}
use Rattle.patch_room.specs.LawsBelow.{Given}
use Rattle.patch_history.specs.Refusing.{reply_of}
use Rattle.patch_room.specs.Putting.{IsVictim, IsNeeded, HasPutAtNeed, MayBePut, WonNothing, WinsBack, HasReclaimed, calls_at_need, wants_room, as_put}
use Rattle.patch_room.specs.Room.{HasEmpty, NoneWorthWinning, IsFull}
use Rattle.patch_room.proofs.Counting.{disks_are_full}
use Rattle.patch_room.proofs.Doing.{standing_event}
use Rattle.patch_room.proofs.Emptying.{reclaims_empty, puts_keep}
use Rattle.patch_room.proofs.Reaching.{reaches, reaches_behind, put_wants}
use Rattle.patch_room.proofs.Refused.{FindsNone, IsWantOfRoom, finds_none, reclaim_wants, none_empty, not_memory}
use Rattle.patch_room.proofs.Winning.{put_fits_behind}

-- a call, and others behind it
joined : (h : History) (event : Event) (events : List Event)
    → with_calls (with_event h event) events ≡ with_calls h (event ∷ events)
joined h event events = ap (λ es. record h { events = es }) (append_assoc h.events (event ∷ []) events)

-- The put alone.
pub put_alone : (h : History) (most writer : ℕ) (c : Content) (reply : Reply) (old new : Store)
    → HasAnswered h writer (Put c.key c.value) reply old new → HasPutAtNeed h most writer c reply old new
put_alone h most writer c reply old new answered = record {
  need = record { won = []; few = omega arith; last = Put c.key c.value; last_is = inl refl; needed = tt; steps = answered.steps };
  represents = answered.gained.represents;
  trace_is = answered.gained.trace_is ∙ ap (λ steps. old.cache.trace ++ steps) (sym (append-nil answered.steps));
  map_is = ap (λ (st : Standing). st.map) (standing_event h (Call writer (Put c.key c.value) reply answered.steps));
}

map_refused : (m : Map) (c : Content) (e : ℕ) (reply : Reply) → is_refused reply ≡ true
    → after_reply m (Reclaim e) reply ≡ after_reply m (Put c.key c.value) reply
map_refused m c e reply t = rw t refl

-- A reclaim that is refused ends it.
pub put_stopped : (h : History) (most writer e : ℕ) (c : Content) (reply : Reply) (steps : List Step) (old new : Store)
    → IsNeeded h writer c e → is_refused reply ≡ true → HasGained h (Call writer (Reclaim e) reply steps) old new
    → HasPutAtNeed h most writer c reply old new
put_stopped h most writer e c reply steps old new needed t gained = record {
  need = record { won = []; few = omega arith; last = Reclaim e; last_is = inr (e, refl, t); needed = needed; steps = steps };
  represents = gained.represents;
  trace_is = gained.trace_is ∙ ap (λ steps. old.cache.trace ++ steps) (sym (append-nil steps));
  map_is = ap (λ (st : Standing). st.map) (standing_event h (Call writer (Reclaim e) reply steps)) ∙ map_refused (standing_of h).map c e reply t;
}

-- One that is done comes before it.
pub put_behind : (h : History) (most writer e : ℕ) (c : Content) (reply : Reply) (steps : List Step) (old mid new : Store)
    → IsNeeded h writer c e → HasGained h (Call writer (Reclaim e) Done steps) old mid
    → HasPutAtNeed (with_reclaim h writer e steps) most writer c reply mid new → HasPutAtNeed h (suc most) writer c reply old new
put_behind h most writer e c reply steps old mid new needed gained done =
    let event = Call writer (Reclaim e) Done steps in
    let later = calls_at_need done.need in
    let same = joined h event later in record {
      need = record {
        won = record { extent = e; steps = steps } ∷ done.need.won;
        few = (let few = done.need.few in omega (arith, few));
        last = done.need.last;
        last_is = done.need.last_is;
        needed = (needed, done.need.needed);
        steps = done.need.steps;
      };
      represents = subst (IsStoreOf new) same done.represents;
      trace_is =
          done.trace_is ∙ ap (λ trace. trace ++ flat_map steps_in later) gained.trace_is
          ∙ append_assoc old.cache.trace steps (flat_map steps_in later);
      map_is =
          ap (λ h. (standing_of h).map) (sym same) ∙ done.map_is
          ∙ ap (λ (st : Standing). after_reply st.map (Put c.key c.value) reply) (standing_event h event);
    }

-- Why there is no space.

right_reply : (st : Standing) (writer : ℕ) (c : Content) (steps : List Step)
    → IsRight st (Call writer (Put c.key c.value) (Refused (bare kind.NoSpace)) steps)
    → Refused (bare kind.NoSpace) ≡ reply_of st writer (Put c.key c.value)
right_reply st writer c steps (inl answered) = answered.0
right_reply st writer c steps (inr up) =
    absurd (not_memory (let g : Refused (bare kind.NoSpace) ≡ Refused (bare kind.OutOfMemory) = up.reply_is in cc))

right_none : (given : Given) (h : History) (writer : ℕ) (c : Content) (steps : List Step) → IsLegalHistory h
    → IsRight (standing_of h) (Call writer (Put c.key c.value) (Refused (bare kind.NoSpace)) steps) → FindsNone h (length_of c)
right_none given h writer c steps legal right =
    finds_none given h writer c.key c.value legal (right_reply (standing_of h) writer c steps right)

-- no extent is worth winning back
pub full_nothing : (given : Given) (h : History) (writer : ℕ) (c : Content) (old mid : Store) → IsStoreOf old h
    → HasAnswered h writer (Put c.key c.value) (Refused (bare kind.NoSpace)) old mid
    → NoneWorthWinning old.shelf (length_of c) → IsFull old.shelf (length_of c)
full_nothing given h writer c old mid was answered worth =
    let finds = right_none given h writer c answered.steps was.legal answered.gained.right in
    subst (λ s. IsFull s (length_of c)) (sym was.shelf_is)
    (disks_are_full (shelf_in h) (length_of c) (record {
      some = (given.extents h was.legal).whole.geometry.some_extents;
      begun = (given.agree h was.legal).begun;
    }) finds.fits finds.none (subst (λ s. NoneWorthWinning s (length_of c)) was.shelf_is worth))

-- or its frames find no room, as no extent is empty
pub full_stopped : (given : Given) (h : History) (writer e len : ℕ) (steps : List Step) (old new : Store) → IsStoreOf old h
    → IsVictim (shelf_in h) len e → HasGained h (Call writer (Reclaim e) (Refused (bare kind.NoSpace)) steps) old new
    → empty_extents (shelf_in h) ≡ []
full_stopped given h writer e len steps old new was victim gained =
    none_empty given h writer e steps was.legal victim.cheapest.may (let fits = victim.fits in omega (arith, fits)) gained.right

-- but not behind a reclaim that was done where one was empty
pub never_full : (given : Given) (h : History) (writer e : ℕ) (c : Content) (steps : List Step) (old mid new : Store) → IsStoreOf old h
    → HasEmpty old.shelf → IsVictim (shelf_in h) (length_of c) e → HasGained h (Call writer (Reclaim e) Done steps) old mid
    → HasAnswered (with_reclaim h writer e steps) writer (Put c.key c.value) (Refused (bare kind.NoSpace)) mid new → ⊥
never_full given h writer e c steps old mid new was has victim gained answered =
    let later = with_reclaim h writer e steps in
    let finds = right_none given later writer c answered.steps gained.represents.legal answered.gained.right in
    put_fits_behind given h was.legal e victim.cheapest.may (subst HasEmpty was.shelf_is has)
    (let fits = victim.fits in omega (arith, fits)) writer (length_of c) steps victim.fits gained.right finds.none

-- An extent is empty.

pub empty_behind_reclaim : (given : Given) (h : History) (writer e : ℕ) (steps : List Step) (old mid : Store) → IsStoreOf old h
    → HasGained h (Call writer (Reclaim e) Done steps) old mid → HasEmpty mid.shelf
empty_behind_reclaim given h writer e steps old mid was gained =
    subst HasEmpty (sym gained.represents.shelf_is) (reclaims_empty given h writer e steps was.legal gained.right)

pub empty_behind_put : (given : Given) (h : History) (writer : ℕ) (c : Content) (old new : Store) → IsStoreOf old h
    → HasEmpty old.shelf → HasAnswered h writer (Put c.key c.value) Done old new → HasEmpty new.shelf
empty_behind_put given h writer c old new was has answered =
    subst HasEmpty (sym answered.gained.represents.shelf_is)
    (puts_keep given h writer c.key c.value answered.steps was.legal (subst HasEmpty was.shelf_is has) answered.gained.right)

-- The bytes of a frame are a number of the code's.

small : (f : Format) → IsFormat f → largest_pointer f < 2 ^ 64
small One valid = omega arith
small (Two length) valid = let high = valid.1 in omega (arith, high)

-- What is known of a put that found no extent: nothing has happened.
pub record FoundNone (h : History) (writer : ℕ) (c : Content) (old mid : Store) : Type 0 where
  pub was : IsStoreOf old h
  pub answered : HasAnswered h writer (Put c.key c.value) (Refused (bare kind.NoSpace)) old mid
  pub same : mid ≡ old

pub found_none : (h : History) (writer : ℕ) (c : Content) (result : Result (Unit {0}) PutRefusal) (old mid : Store)
    → IsStoreOf old h → result ≡ Err put.NoSpace
    → HasAnswered h writer (Put c.key c.value) (reply_to put_cause (λ _. Done) result) old mid
    → IfErr result (λ refusal. refusal ≢ put.OutOfMemory → mid ≡ old) → FoundNone h writer c old mid
found_none h writer c (Ok done) old mid was is answered same = absurd (let no : Ok done ≡ Err put.NoSpace = is in cc)
found_none h writer c (Err refusal) old mid was is answered same =
    let this : refusal ≡ put.NoSpace = (let g : Err refusal ≡ Err put.NoSpace = is in cc) in record {
      was = was;
      answered = subst (λ refusal. HasAnswered h writer (Put c.key c.value) (Refused (put_cause refusal)) old mid) this answered;
      same = same (λ out. let no : put.NoSpace ≡ put.OutOfMemory = sym this ∙ out in cc);
    }

won_done : (h : History) (writer len : ℕ) (mid later : Store)
    → WonNothing len Done mid later ⊎ HasReclaimed h writer len Done mid later → HasReclaimed h writer len Done mid later
won_done h writer len mid later (inl nothing) = absurd (let no : Done ≡ Refused (bare kind.NoSpace) = nothing.reply_is in cc)
won_done h writer len mid later (inr won) = won

module _ (given : Given) (h : History) (writer : ℕ) (c : Content) (old mid : Store) (found : FoundNone h writer c old mid) where
  pub frame_small : length_of c < 2 ^ 64
  frame_small =
      let fits = (right_none given h writer c found.answered.steps found.was.legal found.answered.gained.right).fits in
      let less = small (shelf_in h).extents.geometry.format (given.extents h found.was.legal).whole.geometry.format in
      omega (arith, fits, less)

  pub was_mid : IsStoreOf mid h
  was_mid = subst (λ s. IsStoreOf s h) (sym found.same) found.was

  pub at_length : (len : ℕ) (reply : Reply) (new : Store) → (length_of c < 2 ^ 64 → len ≡ length_of c) → WinsBack len reply mid new
      → WonNothing (length_of c) reply mid new ⊎ HasReclaimed h writer (length_of c) reply mid new
  at_length len reply new exact won =
      subst (λ n. WonNothing n reply mid new ⊎ HasReclaimed h writer n reply mid new) (exact frame_small) (won h writer was_mid)

  is_needed : (e : ℕ) → IsVictim (shelf_in h) (length_of c) e → IsNeeded h writer c e
  is_needed e victim = record {
    no_space = sym (right_reply (standing_of h) writer c found.answered.steps found.answered.gained.right);
    victim = victim;
  }

  pub none_found : extent_for_put old.shelf (length_of c) ≡ None
  none_found =
      ap (λ s. extent_for_put s (length_of c)) found.was.shelf_is
      ∙ (right_none given h writer c found.answered.steps found.was.legal found.answered.gained.right).none

  -- An extent that isn't won back ends it.

  pub stopped : (most : ℕ) (reply : Reply) (new : Store) → is_refused reply ≡ true
      → WonNothing (length_of c) reply mid new ⊎ HasReclaimed h writer (length_of c) reply mid new → HasPutAtNeed h most writer c reply old new
  stopped most reply new refused (inl nothing) =
      subst (λ s. HasPutAtNeed h most writer c reply old s) (sym nothing.same)
      (subst (λ reply. HasPutAtNeed h most writer c reply old mid) (sym nothing.reply_is)
      (put_alone h most writer c (Refused (bare kind.NoSpace)) old mid found.answered))
  stopped most reply new refused (inr won) =
      put_stopped h most writer won.extent c reply won.steps old new (is_needed won.extent won.victim) refused
      (subst (λ s. HasGained h (Call writer (Reclaim won.extent) reply won.steps) s new) found.same won.gained)

  pub stopped_full : (new : Store) → new ≡ mid
      → WonNothing (length_of c) (Refused (bare kind.NoSpace)) mid new ⊎ HasReclaimed h writer (length_of c) (Refused (bare kind.NoSpace)) mid new
      → IsFull new.shelf (length_of c)
  stopped_full new same (inl nothing) =
      subst (λ (s : Store). IsFull s.shelf (length_of c)) (sym (same ∙ found.same))
      (full_nothing given h writer c old mid found.was found.answered
      (subst (λ (s : Store). NoneWorthWinning s.shelf (length_of c)) found.same nothing.none))
  stopped_full new same (inr won) =
      inl (ap empty_extents (ap (λ (s : Store). s.shelf) (same ∙ found.same) ∙ found.was.shelf_is)
      ∙ full_stopped given h writer won.extent (length_of c) won.steps mid new was_mid won.victim won.gained)

  pub stopped_wants : (cause : Refusal) (new : Store)
      → WonNothing (length_of c) (Refused cause) mid new ⊎ HasReclaimed h writer (length_of c) (Refused cause) mid new → IsWantOfRoom cause
  stopped_wants cause new (inl nothing) = inl (let g : Refused cause ≡ Refused (bare kind.NoSpace) = nothing.reply_is in cc)
  stopped_wants cause new (inr won) =
      reclaim_wants given h writer won.extent cause won.steps found.was.legal won.victim.cheapest.may won.gained.right

  -- One that is leaves a store that goes on.

  module _ (later : Store) (won : HasReclaimed h writer (length_of c) Done mid later) where
    abbrev pub after : History
    after = with_reclaim h writer won.extent won.steps

    pub goes_on : (most : ℕ) (reply : Reply) (new : Store) → HasPutAtNeed after most writer c reply later new
        → HasPutAtNeed h (suc most) writer c reply old new
    goes_on most reply new done =
        put_behind h most writer won.extent c reply won.steps old later new (is_needed won.extent won.victim)
        (subst (λ s. HasGained h (Call writer (Reclaim won.extent) Done won.steps) s later) found.same won.gained) done

    pub has_empty : HasEmpty later.shelf
    has_empty = empty_behind_reclaim given h writer won.extent won.steps mid later was_mid won.gained

    pub finds_some : (new : Store) → HasEmpty old.shelf
        → HasAnswered after writer (Put c.key c.value) (Refused (bare kind.NoSpace)) later new → ⊥
    finds_some new has answered =
        never_full given h writer won.extent c won.steps mid later new was_mid
        (subst (λ (s : Store). HasEmpty s.shelf) (sym found.same) has) won.victim won.gained answered

    pub found_behind : HasEmpty old.shelf → extent_for_put later.shelf (length_of c) ≢ None
    found_behind has =
        let fits = won.victim.fits in
        subst (λ s. extent_for_put s (length_of c) ≢ None) (sym won.gained.represents.shelf_is)
        (put_fits_behind given h found.was.legal won.extent won.victim.cheapest.may (subst HasEmpty found.was.shelf_is has)
        (omega (arith, fits)) writer (length_of c) won.steps fits won.gained.right)

    pub may_be_put : MayBePut (standing_of h) c → MayBePut (standing_of after) c
    may_be_put = reaches_behind h writer won.extent c won.steps won.gained.right

  pub reclaim_done_at : (len : ℕ) (new : Store) → (length_of c < 2 ^ 64 → len ≡ length_of c) → WinsBack len Done mid new
      → HasReclaimed h writer (length_of c) Done mid new
  reclaim_done_at len new exact won = won_done h writer (length_of c) mid new (at_length len Done new exact won)

  pub may_be : MayBePut (standing_of h) c
  may_be = reaches (standing_of h) writer c (right_reply (standing_of h) writer c found.answered.steps found.answered.gained.right)

pub no_space : (h : History) (writer : ℕ) (c : Content) (result : Result (Unit {0}) PutRefusal) (old new : Store) → result ≡ Err put.NoSpace
    → HasAnswered h writer (Put c.key c.value) (reply_to put_cause (λ _. Done) result) old new
    → HasAnswered h writer (Put c.key c.value) (Refused (bare kind.NoSpace)) old new
no_space h writer c result old new is answered =
    subst (λ r. HasAnswered h writer (Put c.key c.value) (reply_to put_cause (λ _. Done) r) old new) is answered

-- A put that is answered at once.

pub reserve_alone : (given : Given) (h : History) (writer : ℕ) (c : Content) (result : Result (Unit {0}) PutRefusal) (old new : Store)
    → IsStoreOf old h → HasEmpty old.shelf → result ≢ Err put.OutOfMemory
    → HasAnswered h writer (Put c.key c.value) (reply_to put_cause (λ _. Done) result) old new
    → IfErr result (λ refusal. refusal ≢ put.OutOfMemory → new ≡ old) → HasEmpty new.shelf
reserve_alone given h writer c (Ok done) old new was has ne answered same = empty_behind_put given h writer c old new was has answered
reserve_alone given h writer c (Err refusal) old new was has ne answered same =
    subst (λ (s : Store). HasEmpty s.shelf) (sym (same (λ out. ne (ap Err out)))) has

other_kind : (k l : RefusalKind) → bare k ≡ bare l → k ≡ l
other_kind k l h = ap (λ (r : Refusal). r.kind) h

-- the refusals by their causes
pub wants : (refusal : PutRefusal) → IsWantOfRoom (put_cause refusal) → wants_room refusal ≡ true
wants put.KeyLength h = absurd (elim h [
  | inl e ↦ (let no : kind.KeyLength ≡ kind.NoSpace = other_kind kind.KeyLength kind.NoSpace e in cc)
  | inr h ↦ elim h [
    | inl e ↦ (let no : kind.KeyLength ≡ kind.NumbersSpent = other_kind kind.KeyLength kind.NumbersSpent e in cc)
    | inr h ↦ elim h [
      | inl e ↦ (let no : kind.KeyLength ≡ kind.TooManyLive = other_kind kind.KeyLength kind.TooManyLive e in cc)
      | inr e ↦ (let no : kind.KeyLength ≡ kind.OutOfMemory = other_kind kind.KeyLength kind.OutOfMemory e in cc)
    ]
  ]
])
wants put.ValueLength h = absurd (elim h [
  | inl e ↦ (let no : kind.ValueLength ≡ kind.NoSpace = other_kind kind.ValueLength kind.NoSpace e in cc)
  | inr h ↦ elim h [
    | inl e ↦ (let no : kind.ValueLength ≡ kind.NumbersSpent = other_kind kind.ValueLength kind.NumbersSpent e in cc)
    | inr h ↦ elim h [
      | inl e ↦ (let no : kind.ValueLength ≡ kind.TooManyLive = other_kind kind.ValueLength kind.TooManyLive e in cc)
      | inr e ↦ (let no : kind.ValueLength ≡ kind.OutOfMemory = other_kind kind.ValueLength kind.OutOfMemory e in cc)
    ]
  ]
])
wants put.IndexFull h = absurd (elim h [
  | inl e ↦ (let no : kind.IndexFull ≡ kind.NoSpace = other_kind kind.IndexFull kind.NoSpace e in cc)
  | inr h ↦ elim h [
    | inl e ↦ (let no : kind.IndexFull ≡ kind.NumbersSpent = other_kind kind.IndexFull kind.NumbersSpent e in cc)
    | inr h ↦ elim h [
      | inl e ↦ (let no : kind.IndexFull ≡ kind.TooManyLive = other_kind kind.IndexFull kind.TooManyLive e in cc)
      | inr e ↦ (let no : kind.IndexFull ≡ kind.OutOfMemory = other_kind kind.IndexFull kind.OutOfMemory e in cc)
    ]
  ]
])
wants put.NoSpace h = refl
wants put.NumbersSpent h = refl
wants put.TooManyLive h = refl
wants put.OutOfMemory h = refl

same_cause : (refusal : ReclaimRefusal) → IsWantOfRoom (reclaim_cause refusal) → reclaim_cause refusal ≡ put_cause (as_put refusal)
same_cause reclaim.NoSuchExtent h = absurd (elim h [
  | inl e ↦ (let no : kind.NoSuchExtent ≡ kind.NoSpace = other_kind kind.NoSuchExtent kind.NoSpace e in cc)
  | inr h ↦ elim h [
    | inl e ↦ (let no : kind.NoSuchExtent ≡ kind.NumbersSpent = other_kind kind.NoSuchExtent kind.NumbersSpent e in cc)
    | inr h ↦ elim h [
      | inl e ↦ (let no : kind.NoSuchExtent ≡ kind.TooManyLive = other_kind kind.NoSuchExtent kind.TooManyLive e in cc)
      | inr e ↦ (let no : kind.NoSuchExtent ≡ kind.OutOfMemory = other_kind kind.NoSuchExtent kind.OutOfMemory e in cc)
    ]
  ]
])
same_cause reclaim.EmptyExtent h = absurd (elim h [
  | inl e ↦ (let no : kind.EmptyExtent ≡ kind.NoSpace = other_kind kind.EmptyExtent kind.NoSpace e in cc)
  | inr h ↦ elim h [
    | inl e ↦ (let no : kind.EmptyExtent ≡ kind.NumbersSpent = other_kind kind.EmptyExtent kind.NumbersSpent e in cc)
    | inr h ↦ elim h [
      | inl e ↦ (let no : kind.EmptyExtent ≡ kind.TooManyLive = other_kind kind.EmptyExtent kind.TooManyLive e in cc)
      | inr e ↦ (let no : kind.EmptyExtent ≡ kind.OutOfMemory = other_kind kind.EmptyExtent kind.OutOfMemory e in cc)
    ]
  ]
])
same_cause reclaim.OpenExtent h = absurd (elim h [
  | inl e ↦ (let no : kind.OpenExtent ≡ kind.NoSpace = other_kind kind.OpenExtent kind.NoSpace e in cc)
  | inr h ↦ elim h [
    | inl e ↦ (let no : kind.OpenExtent ≡ kind.NumbersSpent = other_kind kind.OpenExtent kind.NumbersSpent e in cc)
    | inr h ↦ elim h [
      | inl e ↦ (let no : kind.OpenExtent ≡ kind.TooManyLive = other_kind kind.OpenExtent kind.TooManyLive e in cc)
      | inr e ↦ (let no : kind.OpenExtent ≡ kind.OutOfMemory = other_kind kind.OpenExtent kind.OutOfMemory e in cc)
    ]
  ]
])
same_cause reclaim.GenerationSpent h = absurd (elim h [
  | inl e ↦ (let no : kind.GenerationSpent ≡ kind.NoSpace = other_kind kind.GenerationSpent kind.NoSpace e in cc)
  | inr h ↦ elim h [
    | inl e ↦ (let no : kind.GenerationSpent ≡ kind.NumbersSpent = other_kind kind.GenerationSpent kind.NumbersSpent e in cc)
    | inr h ↦ elim h [
      | inl e ↦ (let no : kind.GenerationSpent ≡ kind.TooManyLive = other_kind kind.GenerationSpent kind.TooManyLive e in cc)
      | inr e ↦ (let no : kind.GenerationSpent ≡ kind.OutOfMemory = other_kind kind.GenerationSpent kind.OutOfMemory e in cc)
    ]
  ]
])
same_cause reclaim.NoSpace h = refl
same_cause reclaim.NumbersSpent h = refl
same_cause reclaim.TooManyLive h = refl
same_cause reclaim.OutOfMemory h = refl

-- An extent that is reclaimed.

pub reclaimed : (h : History) (writer len e : ℕ) (reply : Reply) (old new : Store) → IsStoreOf old h → IsVictim old.shelf len e
    → HasAnswered h writer (Reclaim e) reply old new → HasReclaimed h writer len reply old new
reclaimed h writer len e reply old new was victim answered =
    record { extent = e; victim = subst (λ s. IsVictim s len e) was.shelf_is victim; steps = answered.steps; gained = answered.gained }

pub not_reclaimed : (given : Given) (h : History) (writer len e : ℕ) (refusal : ReclaimRefusal) (old new : Store) → IsStoreOf old h
    → IsVictim old.shelf len e → HasAnswered h writer (Reclaim e) (Refused (reclaim_cause refusal)) old new
    → HasReclaimed h writer len (Refused (put_cause (as_put refusal))) old new
not_reclaimed given h writer len e refusal old new was victim answered =
    let there = subst (λ s. IsVictim s len e) was.shelf_is victim in
    let want = reclaim_wants given h writer e (reclaim_cause refusal) answered.steps was.legal there.cheapest.may answered.gained.right in
    subst (λ cause. HasReclaimed h writer len (Refused cause) old new) (same_cause refusal want)
    (reclaimed h writer len e (Refused (reclaim_cause refusal)) old new was victim answered)

pub wants_alone : (h : History) (writer : ℕ) (c : Content) (result : Result (Unit {0}) PutRefusal) (old new : Store)
    → MayBePut (standing_of h) c
    → HasAnswered h writer (Put c.key c.value) (reply_to put_cause (λ _. Done) result) old new
    → IfErr result (λ refusal. wants_room refusal ≡ true)
wants_alone h writer c (Ok done) old new may answered = tt
wants_alone h writer c (Err refusal) old new may answered =
    wants refusal (put_wants (standing_of h) writer c (put_cause refusal) answered.steps may answered.gained.right)

-- where all refusals are for want of room
pub never_otherwise : (result : Result (Unit {0}) PutRefusal) (old new : Store) → IfErr result (λ refusal. wants_room refusal ≡ true)
    → IfErr result (λ refusal. wants_room refusal ≡ false → new ≡ old)
never_otherwise (Ok done) old new want = tt
never_otherwise (Err refusal) old new want = λ no. absurd (let clash : true ≡ false = sym want ∙ no in cc)

-- a put that is answered at once, and refused for what isn't room
pub otherwise_alone : (result : Result (Unit {0}) PutRefusal) (old new : Store)
    → IfErr result (λ refusal. refusal ≢ put.OutOfMemory → new ≡ old) → IfErr result (λ refusal. wants_room refusal ≡ false → new ≡ old)
otherwise_alone (Ok done) old new same = tt
otherwise_alone (Err refusal) old new same =
    λ no. same (λ out. let clash : true ≡ false = ap wants_room (sym out) ∙ no in cc)
