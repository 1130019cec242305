-- A store behind a write that begins or ends.
use Rattle.std.proofs.Common.{◌≡◌, ℕ, ◌≤◌, [], ◌∷◌, ◌++◌, refl, sym, subst}
use Rattle.std.specs.Prelude.{Result, Ok, Err, None, IfOk, OnOk}
use Rattle.patch_model.specs.Step.{Send, Complete}
use Rattle.patch_model.specs.Execution.{Execution, extended}
use Rattle.patch_model.specs.Refusing.{why_not_sent}
use Rattle.patch_cache.specs.Contents.{Contents}
use Rattle.patch_cache.specs.Meaning.{IsCacheOf}
use Rattle.patch_cache.specs.Flights.{IsSent, IsBegun, IsEnded}
use Rattle.patch_cache.specs.declared.flights.Flight.{Flight}
use Rattle.patch_cache.specs.declared.flights.Landed.{Landed}
use Rattle.patch_cache.specs.declared.writes.Done.{Done}
use Rattle.patch_history.specs.Laws.{HistoriesExtend}
use Rattle.patch_history.specs.History.{History, Moved, execution_of}
use Rattle.patch_store.specs.Meaning.{Store, IsStoreOf}
use Rattle.patch_store.specs.Sending.{HasBegun, HasEnded}
use Rattle.patch_store.proofs.Gaining.{gained}

pub ended_so : {A : Type 0} → HistoriesExtend → (h : History) (landed : Landed) (old : Store) (cache : Contents) (result : Result (Done A) Landed)
    → IsStoreOf old h → IfOk result (λ done. IsEnded (execution_of h) landed done cache)
    → OnOk result (cache.trace ≡ old.cache.trace ++ Complete landed.block ∷ [])
    → IfOk result (λ done. HasEnded h landed done old (record old { cache = cache }))
ended_so extends h landed old cache (Ok done) was ended trace = record {
  known = ended.0;
  block_is = ended.1;
  numbers_are = ended.2;
  gained = gained extends h (Moved (Complete landed.block)) old (record old { cache = cache }) was refl ended.3 was.groups_are was.shelf_is trace refl;
}
ended_so extends h landed old cache (Err back) was ended trace = tt

begun_at : {A : Type 0} → HistoriesExtend → (h : History) (flight : Flight A) (old : Store) (cache : Contents) → IsStoreOf old h
    → why_not_sent (execution_of h) flight.block ≡ None → ((b : ℕ) → why_not_sent (execution_of h) b ≡ None → flight.block ≤ b)
    → IsSent (execution_of h) flight.block flight → IsCacheOf cache (extended (execution_of h) (Send flight.block))
    → cache.trace ≡ old.cache.trace ++ Send flight.block ∷ [] → HasBegun h flight old (record old { cache = cache })
begun_at extends h flight old cache was can least sent stands trace = record {
  can = can;
  least = least;
  sent = sent;
  gained = gained extends h (Moved (Send flight.block)) old (record old { cache = cache }) was refl stands was.groups_are was.shelf_is trace refl;
}

pub begun_so : {A : Type 0} → HistoriesExtend → (h : History) (flight : Flight A) (block : ℕ) (old : Store) (cache : Contents) → IsStoreOf old h
    → why_not_sent (execution_of h) block ≡ None → ((b : ℕ) → why_not_sent (execution_of h) b ≡ None → block ≤ b)
    → IsBegun (execution_of h) block flight cache → cache.trace ≡ old.cache.trace ++ Send block ∷ []
    → HasBegun h flight old (record old { cache = cache })
begun_so extends h flight block old cache was can least begun trace =
    let run = execution_of h in
    let e = sym begun.0.block_is in
    begun_at extends h flight old cache was (subst (λ b. why_not_sent run b ≡ None) e can) (subst (λ b. (k : ℕ) → why_not_sent run k ≡ None → b ≤ k) e least)
    (subst (λ b. IsSent run b flight) e begun.0) (subst (λ b. IsCacheOf cache (extended run (Send b))) e begun.1)
    (subst (λ b. cache.trace ≡ old.cache.trace ++ Send b ∷ []) e trace)

-- the same of the views of stores

pub ended_at : {A : Type 0} {old now : Store} → HistoriesExtend → old ≡ now → (h : History) (landed : Landed) (cache : Contents) (result : Result (Done A) Landed)
    → ((run : Execution) → IsCacheOf old.cache run → IfOk result (λ done. IsEnded run landed done cache))
    → OnOk result (cache.trace ≡ old.cache.trace ++ Complete landed.block ∷ []) → IsStoreOf now h
    → IfOk result (λ done. HasEnded h landed done now (record old { cache = cache }))
ended_at {old = old} extends is h landed cache result ended trace =
    subst (λ s. IsStoreOf s h → IfOk result (λ done. HasEnded h landed done s (record old { cache = cache }))) is
    (λ was. ended_so extends h landed old cache result was (ended (execution_of h) was.cache_is) trace)

pub begun_view : {A : Type 0} {old now : Store} → HistoriesExtend → old ≡ now → (h : History) (flight : Flight A) (block : ℕ) (cache : Contents)
    → ((run : Execution) → IsCacheOf old.cache run → (why_not_sent run block ≡ None) × ((b : ℕ) → why_not_sent run b ≡ None → block ≤ b))
    → ((run : Execution) → IsCacheOf old.cache run → IsBegun run block flight cache) → cache.trace ≡ old.cache.trace ++ Send block ∷ []
    → IsStoreOf now h → HasBegun h flight now (record old { cache = cache })
begun_view {old = old} extends is h flight block cache least begun trace =
    subst (λ s. IsStoreOf s h → HasBegun h flight s (record old { cache = cache })) is
    (λ was. begun_so extends h flight block old cache was (least (execution_of h) was.cache_is).0 (least (execution_of h) was.cache_is).1
    (begun (execution_of h) was.cache_is) trace)
