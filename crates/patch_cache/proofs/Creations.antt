-- A patch that is made, on its block and in the cache.
use Rattle.std.proofs.Common.{◌≡◌, ◌+◌, ◌-◌, ◌<◌, ◌≤◌, ◌∙◌, ℕ, Bool, true, false, List, [], ◌∷◌, ◌++◌, length, Option, Some, None, Result, Ok, Err, refl, sym, ap, subst, arith}
use Rattle.std.specs.Prelude.{◌==◌, nat_lt, nat_le, count_by}
use Rattle.std.specs.List.{list_any}
use Rattle.std.specs.Result.{IsErrAnd, IfErr}
use Rattle.std.proofs.lemmas.Bool.{both_ways, le-leb, lt-leb, lt-ltb, le-ltb, ltb-true, ltb-false}
use Rattle.patch_model.specs.declared.blocks.TheConstants.{BLOCK}
use Rattle.patch_model.specs.declared.limits.TheConstants.{MAX_PATCHES, MAX_LIVE}
use Rattle.patch_model.specs.declared.refusals.Refusal.{Refusal}
use Rattle.patch_model.specs.declared.refusals.RefusalKind.TheVariants as kind
use Rattle.patch_model.specs.Refusing.{bare, why_not_made}
use Rattle.patch_model.specs.declared.patches.Undo.{Undo}
use Rattle.patch_model.specs.Entry.{Entry, is_live}
use Rattle.patch_model.specs.Patch.{Patch}
use Rattle.patch_model.specs.Step.{Create}
use Rattle.patch_model.specs.Execution.{Execution, extended}
use Rattle.patch_model.specs.State.{entries_of, next_patch, fresh}
use Rattle.patch_model.specs.History.{history_of}
use Rattle.patch_view.specs.History.{laid, made}
use Rattle.patch_cache.specs.Refusals.{create_cause, IsCause}
use Rattle.patch_cache.specs.declared.refusals.CreateRefusal.{CreateRefusal}
use Rattle.patch_cache.specs.declared.refusals.CreateRefusal.TheVariants.{OutOfMemory as NoMemory}

-- the block's history with the patch that was made
pub laid_here : (run : Execution) (block start : ℕ) (bytes after : List ℕ) (undo : Undo)
    → (history_of (extended run (Create block start bytes after undo)) block).entries ≡ (history_of run block).entries ++ fresh (entries_of run) (next_patch run block start bytes after undo) ∷ []
    → history_of (extended run (Create block start bytes after undo)) block ≡ laid (history_of run block) (fresh (entries_of run) (next_patch run block start bytes after undo))
laid_here run block start bytes after undo more = ap (λ (es : List Entry). record { first = (history_of run block).first; entries = es }) more

-- a fresh patch, by its parts
pub made_alike : (all : List Entry) (p : Patch) (number : ℕ) (hard : Bool) → number ≡ p.no → hard ≡ (fresh all p).hard
    → fresh all p ≡ made number p.block p.start p.bytes p.after p.undo hard
made_alike all p number hard is_no is_hard = rw (is_no, is_hard) refl

-- the cause against a patch that isn't made
pub found : (why : Option Refusal) (cause : Refusal) → Some cause ≡ why → IsCause why cause
found why cause is = subst (λ w. IsCause w cause) is refl

-- where there was none, there was no memory
pub lacks_memory : {T : Type 0} (why : Option Refusal) (r : Result T CreateRefusal) → None ≡ why → IsErrAnd r (λ e. e ≡ NoMemory) → IfErr r (λ refusal. IsCause why (create_cause refusal))
lacks_memory why (Ok x) none is = absurd is
lacks_memory why (Err e) none is = subst (λ w. IsCause w (create_cause e)) none (ap create_cause is)

-- The causes against a patch that tell of its bytes.

pub past_alone : (start long : ℕ) → BLOCK < long → BLOCK < start + long
past_alone start long past = omega arith

pub past_end : (start long : ℕ) (test : Bool) → long ≤ BLOCK → test ≡ nat_lt (BLOCK - long) start → test ≡ true → BLOCK < start + long
past_end start long test fits is on = let past = ltb-true (BLOCK - long) start (sym is ∙ on) in omega (arith, past)

pub not_past_alone : (long : ℕ) (test : Bool) → BLOCK < long → test ≡ nat_lt BLOCK long → test ≡ false → ⊥
not_past_alone long test past is off = both_ways _ (sym is ∙ off) (lt-ltb BLOCK long past)

pub upto_end : (start long : ℕ) (test : Bool) → long ≤ BLOCK → test ≡ nat_lt (BLOCK - long) start → test ≡ false → start + long ≤ BLOCK
upto_end start long test fits is off = let upto = ltb-false (BLOCK - long) start (sym is ∙ off) in omega (arith, upto)

pub out_of_block : (blocks : ℕ) (all : List Entry) (block start : ℕ) (bytes after : List ℕ) → block < blocks → (length bytes == 0) ≡ false → BLOCK < start + length bytes
    → Some (bare kind.OutOfBlock) ≡ why_not_made blocks all block start bytes after
out_of_block blocks all block start bytes after known some past = rw (lt-leb blocks block known, some, lt-ltb BLOCK (start + length bytes) past) refl

pub beyond_blocks : (blocks : ℕ) (all : List Entry) (block start : ℕ) (bytes after : List ℕ) → blocks ≤ block → Some (bare kind.NoSuchBlock) ≡ why_not_made blocks all block start bytes after
beyond_blocks blocks all block start bytes after past = rw (le-leb blocks block past) refl

pub no_bytes : (blocks : ℕ) (all : List Entry) (block start : ℕ) (bytes after : List ℕ) → block < blocks → (length bytes == 0) ≡ true → Some (bare kind.EmptyPatch) ≡ why_not_made blocks all block start bytes after
no_bytes blocks all block start bytes after known none = rw (lt-leb blocks block known, none) refl

-- The causes that tell of its names, and of how many there are.

pub unknown_name : (blocks : ℕ) (all : List Entry) (block start : ℕ) (bytes after : List ℕ) → block < blocks → (length bytes == 0) ≡ false → start + length bytes ≤ BLOCK
    → list_any (λ n. nat_le (length all) n) after ≡ true → Some (bare kind.UnknownDependency) ≡ why_not_made blocks all block start bytes after
unknown_name blocks all block start bytes after known some fits named = rw (lt-leb blocks block known, some, le-ltb BLOCK (start + length bytes) fits, named) refl

pub numbers_spent : (blocks : ℕ) (all : List Entry) (block start : ℕ) (bytes after : List ℕ) → block < blocks → (length bytes == 0) ≡ false → start + length bytes ≤ BLOCK
    → list_any (λ n. nat_le (length all) n) after ≡ false → MAX_PATCHES ≤ length all → Some (bare kind.NumbersSpent) ≡ why_not_made blocks all block start bytes after
numbers_spent blocks all block start bytes after known some fits named many =
    rw (lt-leb blocks block known, some, le-ltb BLOCK (start + length bytes) fits, named, le-leb MAX_PATCHES (length all) many) refl

pub too_many_live : (blocks : ℕ) (all : List Entry) (block start : ℕ) (bytes after : List ℕ) → block < blocks → (length bytes == 0) ≡ false → start + length bytes ≤ BLOCK
    → list_any (λ n. nat_le (length all) n) after ≡ false → length all < MAX_PATCHES → MAX_LIVE ≤ count_by is_live all → Some (bare kind.TooManyLive) ≡ why_not_made blocks all block start bytes after
too_many_live blocks all block start bytes after known some fits named few many =
    rw (lt-leb blocks block known, some, le-ltb BLOCK (start + length bytes) fits, named, lt-leb MAX_PATCHES (length all) few, le-leb MAX_LIVE (count_by is_live all) many) refl

-- none stands against a patch

pub none_against : (blocks : ℕ) (all : List Entry) (block start : ℕ) (bytes after : List ℕ) → block < blocks → (length bytes == 0) ≡ false → start + length bytes ≤ BLOCK
    → list_any (λ n. nat_le (length all) n) after ≡ false → length all < MAX_PATCHES → count_by is_live all < MAX_LIVE → None ≡ why_not_made blocks all block start bytes after
none_against blocks all block start bytes after known some fits named few few_live =
    rw (lt-leb blocks block known, some, le-ltb BLOCK (start + length bytes) fits, named, lt-leb MAX_PATCHES (length all) few, lt-leb MAX_LIVE (count_by is_live all) few_live) refl
