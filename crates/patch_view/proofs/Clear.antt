-- A block with no record.
use Rattle.std.proofs.Common.{◌≡◌, ℕ, suc, ◌<◌, ◌∙◌, true, false, true≢false, inl, inr, List, [], ◌∷◌, length, refl, ap, sym, arith}
use Rattle.std.specs.Prelude.{◌==◌}
use Rattle.std.specs.List.{list_any, list_all}
use Rattle.std.proofs.Math.Dec.{eqb-suc-zero}
use Rattle.std.proofs.lemmas.Bool.{cases_Bool, both_ways, eqb-true, false_from_ne_true}
use Rattle.patch_model.specs.Entry.{is_durable}
use Rattle.patch_model.specs.History.{History}
use Rattle.patch_model.specs.Member.{list_any-at, list_all-at, list_all-from}
use Rattle.patch_stacks.specs.State.{Block, class_at}
use Rattle.patch_records.specs.Records.{Class}
use Rattle.patch_view.specs.Meaning.{IsBlockOf}

-- a record is that of a patch that isn't durable
some_live : (b : Block) (taken : List ℕ) (h : History) → IsBlockOf b taken h → 0 < length b.classes → list_all is_durable h.entries ≡ false
some_live b taken h r some = false_from_ne_true _ (λ all.
    let first = r.classes 0 some in
    let e = list_any-at (λ e. e.class == (class_at b 0).name) h.entries first.known in
    both_ways (is_durable e.0) (first.marked e.0 e.1 (eqb-true _ _ e.2)).0 (list_all-at is_durable h.entries e.0 all e.1))

-- and a patch that isn't durable has a record
none_live : (b : Block) (taken : List ℕ) (h : History) → IsBlockOf b taken h → b.classes ≡ [] → list_all is_durable h.entries ≡ true
none_live b taken h r none = list_all-from is_durable h.entries (λ e i. elim (cases_Bool (is_durable e)) [
  | inl t ↦ t
  | inr f ↦ absurd (true≢false (sym (r.complete e i f) ∙ ap (list_any (λ c. c.name == e.class)) none))
])

pub clear_is_durable : (b : Block) (taken : List ℕ) (h : History) → IsBlockOf b taken h → (length b.classes == 0) ≡ list_all is_durable h.entries
clear_is_durable b taken h r = by b.classes refl
  where
    by : (cs : List Class) → b.classes ≡ cs → (length b.classes == 0) ≡ list_all is_durable h.entries
    by [] is = rw is (sym (none_live b taken h r is))
    by (c ∷ cs) is = let long : length b.classes ≡ suc (length cs) = ap length is in
        rw long (eqb-suc-zero (length cs) ∙ sym (some_live b taken h r (omega arith)))
