-- Sends and completions, as they are answered.
use Rattle.std.proofs.Common.{◌≡◌, ℕ, ◌<◌, Bool, true, false, ◌⊎◌, inl, inr, ◌∙◌, List, Result, Ok, Err, Some, None, length, OnOk, OnErr, refl, sym, ap, subst}
use Rattle.std.specs.Prelude.{◌==◌, ◌&&◌, IsTrue, Contains, slice_get, slice_set, is_err}
use Rattle.std.specs.List.{list_any, position}
use Rattle.std.proofs.Math.ListN.{get_or}
use Rattle.patch_model.specs.declared.refusals.Refusal.{Refusal}
use Rattle.patch_model.specs.declared.refusals.RefusalKind.TheVariants as kind
use Rattle.patch_model.specs.Step as the
use Rattle.patch_model.specs.Entry.{Entry, is_flight}
use Rattle.patch_model.specs.Execution.{Execution, extended}
use Rattle.patch_model.specs.State.{state_of, entries_of, has_flight, flying_of, numbers_of}
use Rattle.patch_model.specs.Legal.{IsLegal}
use Rattle.patch_model.specs.Refusing.{bare, why_not_sent}
use Rattle.patch_model.specs.Ready.{ready}
use Rattle.patch_model.specs.History.{history_of, image}
use Rattle.patch_cache.specs.Meaning.{IsCacheBy}
use Rattle.patch_model.specs.Member.{In}
use Rattle.patch_cache.specs.Contents.{Contents}
use Rattle.patch_cache.specs.Flights.{IsFlightOf, AreFlightsOf}
use Rattle.patch_cache.specs.Asks.{Ask, Answer, Send, Complete, Sent, Landed, Refused, IsFault, IsAnswer, IsGivenUp, IsGivenUpBy}
use Rattle.patch_device.specs.Device.{IsOldOrNew}
use Rattle.patch_cache.specs.Running.{RunsBy, IsAnsweredBy, HasWritten, held_by}
use Rattle.patch_cache.specs.declared.flights.Flight.{Flight}
use Rattle.patch_cache.specs.declared.flights.Flights.{Flights}
use Rattle.patch_cache.proofs.HeldFlights.{stands_at, get_in, held_flies, flying_known}

-- what a clause says of the variant that a test found
pub on_err : {T E : Type 0} (r : Result T E) (P : Type 0) → is_err r ≡ true → OnErr r P → P
on_err (Ok x) P e h = absurd (cc)
on_err (Err x) P e h = h

pub on_ok : {T E : Type 0} (r : Result T E) (P : Type 0) → is_err r ≡ false → OnOk r P → P
on_ok (Ok x) P e h = h
on_ok (Err x) P e h = absurd (cc)

-- the flight of a block, as it stands among the held ones
pub record Stands {A : Type 0} (run : Execution) (held : List (Flight A)) (block at : ℕ) (flight : Flight A) : Type 0 where
  pub stands : slice_get held at ≡ Some flight
  pub block_is : flight.block ≡ block
  pub is : IsFlightOf run flight
  pub flies : has_flight (state_of run) flight.block ≡ true
  pub block_flies : has_flight (state_of run) block ≡ true
  pub known : flight.block < length run.first

pub found : {A : Type 0} → ((run : Execution) (block : ℕ) → IsLegal run → IsTrue (has_flight (state_of run) block) → IsTrue (list_any (λ e. is_flight e && e.patch.block == block) (entries_of run)))
    → ((run : Execution) (e : Entry) → IsLegal run → Contains (entries_of run) e → e.patch.block < length run.first) → (run : Execution) (held : List (Flight A)) (block at : ℕ) (flight : Flight A)
    → IsLegal run → AreFlightsOf run held → position (λ f. f.block == block) held ≡ Some at → flight ≡ get_or held at flight → Stands run held block at flight
found holds known run held block at flight legal are place it =
    let s = stands_at held block at flight place (sym it) in
    let inside : In held flight = get_in held flight at s.0 in
    let flies : has_flight (state_of run) flight.block ≡ true = held_flies run held flight are inside in record {
      stands = s.0;
      block_is = s.1;
      is = are.each flight inside;
      flies = flies;
      block_flies = subst (λ b. has_flight (state_of run) b ≡ true) s.1 flies;
      known = flying_known holds known run flight.block legal flies;
    }

-- it is no stranger
pub no_stranger : {A : Type 0} (run : Execution) (held : List (Flight A)) (block at landed number : ℕ) (flight : Flight A) → Stands run held block at flight → landed ≡ flight.block
    → number ≡ flight.sequence → (Contains (state_of run).flights (landed, number) → ⊥) → ⊥
no_stranger run held block at landed number flight s same_block same_number stranger =
    let pair : ◌≡◌ {A = ℕ × ℕ} (flight.block, flight.sequence) (landed, number) = cc in
    stranger (subst (λ (p : ℕ × ℕ). Contains (state_of run).flights p) pair s.is.known)

-- what is given up is so, whether the cache has all its blocks or some
pub given_up : (whole : Bool) (run : Execution) (ask : Ask) (answer : Answer) → IsGivenUp run ask answer → IsGivenUpBy whole run ask answer
given_up true run ask answer given = given
given_up false run ask answer given = inl given

pub right_or_given_up : (whole : Bool) (run : Execution) (ask : Ask) (answer : Answer) → IsAnswer run ask answer ⊎ IsGivenUp run ask answer
    → IsAnswer run ask answer ⊎ IsGivenUpBy whole run ask answer
right_or_given_up whole run ask answer (inl right) = inl right
right_or_given_up whole run ask answer (inr given) = inr (given_up whole run ask answer given)

-- what a completion answers
landed_right : (run : Execution) (block : ℕ) (numbers : List ℕ) → has_flight (state_of run) block ≡ true → numbers ≡ numbers_of (flying_of (entries_of run) block)
    → IsAnswer run (Complete block) (Landed block numbers)
landed_right run block numbers flies same = rw flies (ap (Landed block) same)

-- a completion of a block with no flight
pub none_answered : {A : Type 0} (whole : Bool) (run : Execution) (block : ℕ) (cause : Refusal) (cache : Contents) (flights : Flights A) → cause ≡ bare kind.Stranger → RunsBy whole cache flights run
    → has_flight (state_of run) block ≡ false → IsAnsweredBy whole run (Complete block) (Refused cause) cache flights
none_answered whole run block cause cache flights is runs none = record { right = inl (rw none (ap Refused is)); runs = runs }

-- a completion that the device refused
pub fault_answered : {A : Type 0} (whole : Bool) (run : Execution) (block : ℕ) (cause : Refusal) (cache : Contents) (flights : Flights A) → IsFault (Refused cause) → RunsBy whole cache flights run
    → has_flight (state_of run) block ≡ true → IsAnsweredBy whole run (Complete block) (Refused cause) cache flights
fault_answered whole run block cause cache flights is runs flies = record {
  right = inr (given_up whole run (Complete block) (Refused cause) (record {
    done = Landed block (numbers_of (flying_of (entries_of run) block));
    right = landed_right run block (numbers_of (flying_of (entries_of run) block)) flies refl;
    not_refused = refl;
    gives_up = inr (is, refl);
  }));
  runs = runs;
}

-- a completion that was done
pub landed_answered : {A : Type 0} (whole : Bool) (run : Execution) (block ended : ℕ) (numbers : List ℕ) (cache : Contents) (flights : Flights A) → has_flight (state_of run) block ≡ true → ended ≡ block
    → numbers ≡ numbers_of (flying_of (entries_of run) block) → RunsBy whole cache flights (extended run (the.Complete block)) → IsAnsweredBy whole run (Complete block) (Landed ended numbers) cache flights
landed_answered whole run block ended numbers cache flights flies is same runs =
    record { right = inl (subst (λ b. IsAnswer run (Complete block) (Landed b numbers)) (sym is) (landed_right run block numbers flies same)); runs = runs }

-- what a written flight has made of an honest disk
pub written_for : {A : Type 0} (run : Execution) (block : ℕ) (flight : Flight A) (old new : List (List ℕ)) → flight.block ≡ block → flight.image ≡ image (history_of run flight.block)
    → new ≡ slice_set old flight.block flight.image → new ≡ slice_set old block (image (history_of run block))
written_for run block flight old new at is same = same ∙ ap (slice_set old flight.block) is ∙ ap (λ b. slice_set old b (image (history_of run b))) at

-- and one that the device refused
pub written_or_not : {A : Type 0} (run : Execution) (block : ℕ) (flight : Flight A) (cause : Refusal) (old new : List (List ℕ)) → IsFault (Refused cause) → flight.block ≡ block
    → flight.image ≡ image (history_of run flight.block) → IsOldOrNew old flight.block flight.image new → HasWritten run (Complete block) (Refused cause) old new
written_or_not run block flight cause old new why at is (inl same) = inl same
written_or_not run block flight cause old new why at is (inr done) = inr (why, written_for run block flight old new at is done)

-- a send that was done
pub sent_answered : {A : Type 0} (whole : Bool) (run : Execution) (block : ℕ) (numbers bytes : List ℕ) (cache : Contents) (flights : Flights A) → why_not_sent run block ≡ None
    → numbers ≡ numbers_of (ready (entries_of run) block) → bytes ≡ image (history_of (extended run (the.Send block)) block) → RunsBy whole cache flights (extended run (the.Send block))
    → IsAnsweredBy whole run (Send block) (Sent block numbers bytes) cache flights
sent_answered whole run block numbers bytes cache flights why same shown runs = record { right = inl (rw why (ap (λ ns. Sent block ns bytes) same ∙ ap (Sent block (numbers_of (ready (entries_of run) block))) shown)); runs = runs }

-- a send that was refused, and one for which there was no memory
pub send_refused : {A : Type 0} (whole : Bool) (run : Execution) (block : ℕ) (cause : Refusal) (cache : Contents) (flights : Flights A) → why_not_sent run block ≡ Some cause → RunsBy whole cache flights run
    → IsAnsweredBy whole run (Send block) (Refused cause) cache flights
send_refused whole run block cause cache flights why runs = record { right = inl (rw why refl); runs = runs }

pub send_given_up : {A : Type 0} (whole : Bool) (run : Execution) (block : ℕ) (cause : Refusal) (cache : Contents) (flights : Flights A) → why_not_sent run block ≡ None → cause ≡ bare kind.OutOfMemory
    → RunsBy whole cache flights run → IsAnsweredBy whole run (Send block) (Refused cause) cache flights
send_given_up whole run block cause cache flights why is runs = record {
  right = inr (given_up whole run (Send block) (Refused cause) (record {
    done = Sent block (numbers_of (ready (entries_of run) block)) (image (history_of (extended run (the.Send block)) block));
    right = rw why refl;
    not_refused = refl;
    gives_up = inl (ap Refused is, refl);
  }));
  runs = runs;
}

-- a cache and its flights that stay as they are
pub runs_same : {A : Type 0} (whole : Bool) (run : Execution) (cache now : Contents) (flights flights_now : Flights A) → now ≡ cache → held_by flights_now ≡ held_by flights → RunsBy whole cache flights run
    → RunsBy whole now flights_now run
runs_same whole run cache now flights flights_now same held runs =
    record { cache_is = subst (λ (c : Contents). IsCacheBy whole c run) (sym same) runs.cache_is; flights_are = subst (AreFlightsOf run) (sym held) runs.flights_are }
