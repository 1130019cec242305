use Rattle.std.proofs.Common.{◌≡◌, ℕ, ◌+◌, ◌<◌, Bool, false, inl, inr, sym, subst, arith}
use Rattle.std.proofs.lemmas.Bool.{cases_lt}
use Rattle.patch_extent.specs.Opening.{is_bad_record}
use Rattle.patch_extent.proofs.Beginning.{some_bad, none_bad, good_record}
use Rattle.patch_extent.proofs.extents.has_bad_record.Goals as goal

one_more : (p : ℕ → Bool) (n : ℕ) → ((e : ℕ) → e < n → p e ≡ false) → p n ≡ false → (e : ℕ) → e < n + 1 → p e ≡ false
one_more p n before here e less = elim (cases_lt e n) [
  | inl below ↦ before e below
  | inr from ↦ subst (λ k. p k ≡ false) (let same : n ≡ e = omega (arith, less, from) in same) here
]

pub loop-extent-init : goal.loop-extent-init
loop-extent-init c e less = absurd (omega (arith, less))

pub loop-extent-preserved : goal.loop-extent-preserved
loop-extent-preserved c =
    one_more (is_bad_record c.args.geometry c.args.block.now) c.loop-extent.extent c.loop-extent.invariant (good_record c.args.geometry c.args.block.now c.loop-extent.extent _ c.in-Some.ensures)

pub returns-in_default : goal.returns-in_default
returns-in_default c =
    sym (some_bad (is_bad_record c.args.geometry c.args.block.now) c.args.geometry.extents c.loop-extent.extent (omega arith) c.in_default.ensures)

pub returns : goal.returns
returns c =
    let end = c.loop-extent-test.false in
    sym (none_bad (is_bad_record c.args.geometry c.args.block.now) c.args.geometry.extents (λ e less. c.loop-extent.invariant e (omega (arith, less, end))))
