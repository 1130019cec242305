-- What is ready of a block may depart.
use Rattle.std.proofs.Common.{◌≡◌, ℕ, ◌∙◌, true, List, sym, ap}
use Rattle.std.specs.Prelude.{◌==◌, Contains}
use Rattle.std.proofs.lemmas.Bool.{and_parts, eqb-true}
use Rattle.patch_model.specs.Entry.{Entry, is_among, is_memory}
use Rattle.patch_model.specs.History.{of_block}
use Rattle.patch_model.specs.Member.{In, Contains-from_In, filter-In, list_any-at}
use Rattle.patch_model.specs.Orderly.{IsOrderly}
use Rattle.patch_model.specs.Ready.{IsLargestWritable, has, ready}
use Rattle.patch_model.specs.State.{numbers_of}
use Rattle.patch_view.specs.History.{MayDepart}

in_memory : (all : List Entry) (block : ℕ) (e : Entry) → IsOrderly all → IsLargestWritable all block (ready all block) → Contains all e
    → has (ready all block) e ≡ true → is_memory e ≡ true
in_memory all block e orderly largest i t =
    let f = list_any-at (λ f. f.patch.no == e.patch.no) (ready all block) t in
    let m = largest.writable.in_memory f.0 (Contains-from_In (ready all block) f.0 f.1) in
    let same : f.0 ≡ e = orderly.apart f.0 e m.0 i (eqb-true _ _ f.2) in
    ap is_memory (sym same) ∙ (and_parts (is_memory f.0) (f.0.patch.block == block) m.1).0

pub may_depart : (all : List Entry) (block : ℕ) (first : List ℕ) → IsOrderly all → IsLargestWritable all block (ready all block)
    → ((e : Entry) → Contains all e → is_among (numbers_of (ready all block)) e.class ≡ has (ready all block) e)
    → MayDepart (record { first = first; entries = of_block block all }) (numbers_of (ready all block)) (ready all block)
may_depart all block first orderly largest names =
    let inside : (e : Entry) → In (of_block block all) e → Contains all e = (λ e i. Contains-from_In all e (filter-In (λ f. f.patch.block == block) all e i).0) in
    record {
      named = λ e i. names e (inside e i);
      memory = λ e i t. in_memory all block e orderly largest (inside e i) t;
    }
