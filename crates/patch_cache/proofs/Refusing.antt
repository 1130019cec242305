-- The causes against a write of a block.
use Rattle.std.proofs.Common.{◌≡◌, ◌<◌, ◌≤◌, ◌∙◌, inl, subst, ℕ, true, false, List, [], ◌∷◌, Option, Some, None, Result, Ok, Err, length, refl, sym, ap}
use Rattle.std.specs.Prelude.{◌≢◌, ◌==◌, is_some, Contains}
use Rattle.std.specs.List.{list_all}
use Rattle.std.specs.Option.{option_map}
use Rattle.std.specs.Result.{IsErrAnd, IfErr}
use Rattle.std.proofs.Math.Dec.{eqb-suc-zero}
use Rattle.std.proofs.lemmas.Bool.{le-leb, lt-leb, eq-eqb, and_parts}
use Rattle.patch_model.specs.declared.refusals.Refusal.{Refusal}
use Rattle.patch_model.specs.declared.refusals.RefusalKind.TheVariants as kind
use Rattle.patch_model.specs.declared.patches.Mark.{Mark}
use Rattle.patch_model.specs.declared.patches.Mark.TheVariants.{Memory, Flight, Durable}
use Rattle.patch_model.specs.Entry.{Entry, is_memory, is_durable, marks_memory, marks_durable}
use Rattle.patch_model.specs.History.{history_of, of_block}
use Rattle.patch_model.specs.Execution.{Execution}
use Rattle.patch_model.specs.Member.{In-from_Contains, Contains-from_In, In-filter, list_any-from, list_all-at}
use Rattle.patch_model.specs.Ready.{ready, IsLargestWritable}
use Rattle.patch_model.specs.Refusing.{why_not_sent, bare}
use Rattle.patch_model.specs.State.{entries_of, state_of, has_flight}
use Rattle.patch_cache.specs.Contents.{Write}
use Rattle.patch_cache.specs.Meaning.{IsWriteOf}
use Rattle.patch_cache.specs.Refusals.{send_cause, IsCause}
use Rattle.patch_cache.specs.declared.refusals.SendRefusal.{SendRefusal}
use Rattle.patch_cache.specs.declared.refusals.SendRefusal.TheVariants.{OutOfMemory as NoMemory}

-- a block with a write under way has one in flight
pub has_one : (run : Execution) (block : ℕ) (w : Option Write) → IsWriteOf run block w → has_flight (state_of run) block ≡ is_some w
has_one run block None is = is
has_one run block (Some write) is =
    list_any-from (λ f. f.0 == block) (state_of run).flights (block, write.sequence) (In-from_Contains _ _ is.0) (eq-eqb block block refl)

pub beyond : (run : Execution) (block : ℕ) → length run.first ≤ block → why_not_sent run block ≡ Some (bare kind.NoSuchBlock)
beyond run block past = rw (le-leb (length run.first) block past) refl

pub already : (run : Execution) (block : ℕ) → block < length run.first → has_flight (state_of run) block ≡ true
    → why_not_sent run block ≡ Some (bare kind.AlreadyInFlight)
already run block known flies = rw (lt-leb (length run.first) block known, flies) refl

none_or_some : (run : Execution) (block : ℕ) (set : List Entry) → ready (entries_of run) block ≡ set → block < length run.first → has_flight (state_of run) block ≡ false
    → why_not_sent run block ≡ (elim set [ [] ↦ Some (bare kind.NothingReady) | ◌∷◌ e es ↦ None ])
none_or_some run block [] is known still = rw (lt-leb (length run.first) block known, still, is) refl
none_or_some run block (e ∷ es) is known still = rw (lt-leb (length run.first) block known, still, is, eqb-suc-zero (length es)) refl

pub nothing : (run : Execution) (block : ℕ) → block < length run.first → has_flight (state_of run) block ≡ false → (ready (entries_of run) block ≢ [] → ⊥)
    → why_not_sent run block ≡ Some (bare kind.NothingReady)
nothing run block known still none = by (ready (entries_of run) block) refl
  where
    by : (set : List Entry) → ready (entries_of run) block ≡ set → why_not_sent run block ≡ Some (bare kind.NothingReady)
    by [] is = none_or_some run block [] is known still
    by (e ∷ es) is = absurd (none (λ empty. let differ : e ∷ es ≡ [] = sym is ∙ empty in absurd (cc)))

pub something : (run : Execution) (block : ℕ) → block < length run.first → has_flight (state_of run) block ≡ false → ready (entries_of run) block ≢ []
    → why_not_sent run block ≡ None
something run block known still some = by (ready (entries_of run) block) refl
  where
    by : (set : List Entry) → ready (entries_of run) block ≡ set → why_not_sent run block ≡ None
    by [] is = absurd (some is)
    by (e ∷ es) is = none_or_some run block (e ∷ es) is known still

pub is_none : {X : Type 0} → (o : Option X) → is_some o ≡ false → o ≡ None
is_none None h = refl
is_none (Some x) h = absurd (cc)

pub not_told : {X Y : Type 0} (tell : X → Y) (o : Option X) → is_some o ≡ true → option_map tell o ≡ None → ⊥
not_told tell None some none = absurd (cc)
not_told tell (Some x) some none = absurd (cc)

apart : (m : Mark) → marks_memory m ≡ true → marks_durable m ≡ true → ⊥
apart Memory a b = absurd (cc)
apart Flight a b = absurd (cc)
apart Durable a b = absurd (cc)

-- where all patches of a block are durable, none of it is ready
pub none_ready : (run : Execution) (block : ℕ) → IsLargestWritable (entries_of run) block (ready (entries_of run) block)
    → list_all is_durable (history_of run block).entries ≡ true → ready (entries_of run) block ≢ [] → ⊥
none_ready run block big clear some = by (ready (entries_of run) block) refl
  where
    by : (set : List Entry) → ready (entries_of run) block ≡ set → ⊥
    by [] is = some is
    by (e ∷ es) is =
        let first : Contains (e ∷ es) e = Contains-from_In (e ∷ es) e (inl refl) in
        let m = big.writable.in_memory e (subst (λ l. Contains l e) (sym is) first) in
        let parts = and_parts (is_memory e) (e.patch.block == block) m.1 in
        let there = In-filter (λ f. f.patch.block == block) (entries_of run) e (In-from_Contains (entries_of run) e m.0) parts.1 in
        apart e.mark parts.0 (list_all-at is_durable (of_block block (entries_of run)) e clear there)

-- where there was no cause, there was no memory
pub send_lacks_memory : {T : Type 0} (why : Option Refusal) (r : Result T SendRefusal) → None ≡ why → IsErrAnd r (λ e. e ≡ NoMemory) → IfErr r (λ refusal. IsCause why (send_cause refusal))
send_lacks_memory why (Ok x) none is = absurd is
send_lacks_memory why (Err e) none is = subst (λ w. IsCause w (send_cause e)) none (ap send_cause is)
