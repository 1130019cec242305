use Rattle.std.proofs.Common.{◌≡◌, ℕ, ◌+◌, ◌∙◌, ◌++◌, ◌∷◌, [], List, length, get_or, inl, inr, sym, ap, subst, arith}
use Rattle.std.proofs.lemmas.Bool.{cases_lt, false≢true}
use Rattle.std.proofs.lemmas.List.{length_push, get_or_push, get_or_append_left}
use Rattle.patch_frame.specs.declared.geometries.Geometry.{Geometry}
use Rattle.patch_plans.specs.declared.records.Extent.{Extent}
use Rattle.patch_plans.specs.Extents.{no_extent}
use Rattle.patch_extent.specs.Opening.{IsRecord, AreRecords, is_bad_record}
use Rattle.patch_extent.proofs.Beginning.{some_bad}
use Rattle.patch_extent.proofs.extents.read_records.Goals as goal

no_records : (g : Geometry) (block : List ℕ) (each : List Extent) → each ≡ [] → AreRecords g block each 0
no_records g block each none = record { counted = ap length none; records = λ e less. absurd (omega (arith, less)) }

more_records : (g : Geometry) (block : List ℕ) (each next : List Extent) (k : Extent) (n : ℕ) → AreRecords g block each n → IsRecord g block n k
    → next ≡ each ++ k ∷ [] → AreRecords g block next (n + 1)
more_records g block each next k n before this is =
    let counted = before.counted in
    record {
      counted = ap length is ∙ length_push each k ∙ ap (λ m. m + 1) before.counted;
      records = λ e less. subst (λ xs. IsRecord g block e (get_or xs e no_extent)) (sym is) (elim (cases_lt e n) [
        | inl below ↦ subst (IsRecord g block e) (sym (get_or_append_left each (k ∷ []) no_extent e (omega (arith, below, counted)))) (before.records e below)
        | inr from ↦ let here : n ≡ e = omega (arith, less, from) in
            subst (IsRecord g block e) (sym (get_or_push each k no_extent e (before.counted ∙ here))) (subst (λ m. IsRecord g block m k) here this)
      ]);
    }

pub loop-extent-init : goal.loop-extent-init
loop-extent-init g c = no_records c.args.geometry c.args.block.now _ c.in_ok-each.ensures.items

pub loop-extent-preserved : goal.loop-extent-preserved
loop-extent-preserved g c =
    more_records c.args.geometry c.args.block.now c.loop-extent.each.items c.push.new.self.items c.in-Some.record c.loop-extent.extent c.loop-extent.invariant c.in-Some.ensures c.in_ok-push.ensures.items

pub unreachable-requires : goal.unreachable-requires
unreachable-requires g c =
    let bad = some_bad (is_bad_record c.args.geometry c.args.block.now) c.args.geometry.extents c.loop-extent.extent (omega arith) c.in_default.ensures in
    false≢true (sym c.requires.read ∙ bad)
