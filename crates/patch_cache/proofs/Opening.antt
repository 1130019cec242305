-- Blocks, as a cache takes them one by one.
use Rattle.std.proofs.Common.{ℕ, List, [], ◌∷◌, ◌++◌, Option, Some, None, length, length-append, replicate, map, ◌≡◌, refl, sym, ap, subst, ◌<◌, ◌≤◌, ◌∙◌, ◌+◌, zero, suc, inl, inr, true, false, arith}
use Rattle.std.specs.Prelude.{slice_index_or, slice_set, count_by, is_some}
use Rattle.std.proofs.lemmas.Bool.{cases_eq, both_ways}
use Rattle.std.proofs.lemmas.List.{length-replicate, length-map, length-set, get_or-set_same, get_or-set_other}
use Rattle.std.proofs.lemmas.List.Elements.{All-from_get_or}
use Rattle.patch_model.specs.declared.blocks.TheConstants.{BLOCK}
use Rattle.patch_model.specs.declared.limits.TheConstants.{MAX_CACHED}
use Rattle.patch_model.specs.Step.{Step}
use Rattle.patch_view.specs.History.{unpatched}
use Rattle.patch_view.specs.Meaning.{IsBlockOf}
use Rattle.patch_graph.specs.State.{Graph}
use Rattle.patch_graph.specs.Meaning.{IsGraphOf}
use Rattle.patch_cache.specs.Contents.{Resident, Write, state_in, write_in, block_or_none}
use Rattle.patch_cache.specs.Meaning.{IsCacheBy, IsPagedCacheOf, IsWriteOf}
use Rattle.patch_cache.specs.Opening.{AreUnpatched, IsUnpatched}
use Rattle.patch_cache.specs.Paging.{AreBlocks}
use Rattle.patch_cache.proofs.Residency.{state_at, write_at, inside}

-- So many rows are of these blocks, one after another, and the others stand no more.
pub record AreFilled (rows : List (Option Resident)) (done : List (List ℕ)) (total : ℕ) : Type 0 where
  pub many : length rows ≡ total
  pub each : (n : ℕ) → n < length done → (row : Resident) × (slice_index_or rows n None ≡ Some row) × IsUnpatched row (slice_index_or done n [])
  pub rest : (n : ℕ) → length done ≤ n → slice_index_or rows n None ≡ None

pub none_filled : (total : ℕ) (rows : List (Option Resident)) → rows ≡ replicate total None → AreFilled rows [] total
none_filled total rows is = record {
  many = ap length is ∙ length-replicate total None;
  each = λ n less. absurd (omega arith);
  rest = λ n upto. ap (λ rs. slice_index_or rs n None) is ∙ nothing total n;
}
  where
    nothing : (total n : ℕ) → slice_index_or (replicate {A = Option Resident} total None) n None ≡ None
    nothing zero n = refl
    nothing (suc t) zero = refl
    nothing (suc t) (suc n) = nothing t n

left_of : (xs ys : List (List ℕ)) (n : ℕ) → n < length xs → slice_index_or (xs ++ ys) n [] ≡ slice_index_or xs n []
left_of [] ys n less = absurd (omega arith)
left_of (x ∷ xs) ys zero less = refl
left_of (x ∷ xs) ys (suc n) less = left_of xs ys n (omega arith)

last_of : (xs : List (List ℕ)) (y : List ℕ) → slice_index_or (xs ++ y ∷ []) (length xs) [] ≡ y
last_of [] y = refl
last_of (x ∷ xs) y = last_of xs y

pub one_more : (rows : List (Option Resident)) (done : List (List ℕ)) (total n : ℕ) (row : Resident) (bytes : List ℕ) → AreFilled rows done total → n ≡ length done → length done < total
    → IsUnpatched row bytes → AreFilled (slice_set rows n (Some row)) (done ++ bytes ∷ []) total
one_more rows done total n row bytes filled place less is = record {
  many = length-set rows n (Some row) ∙ filled.many;
  each = λ k below. elim (cases_eq k n) [
    | inl same ↦
        let here : slice_index_or (slice_set rows n (Some row)) n None ≡ Some row = get_or-set_same rows n (Some row) None (let many = filled.many in omega (arith, many, place, less)) in (
          row,
          ap (λ (i : ℕ). slice_index_or (slice_set rows n (Some row)) i None) same ∙ here,
          subst (IsUnpatched row) (sym (ap (λ (i : ℕ). slice_index_or (done ++ bytes ∷ []) i []) (same ∙ place) ∙ last_of done bytes)) is,
        )
    | inr differ ↦
        let long : length (done ++ bytes ∷ []) ≡ length done + 1 = length-append done (bytes ∷ []) in
        let before : k < length done = omega (arith, below, long, place, differ) in
        let was = filled.each k before in (
          was.0,
          get_or-set_other rows n k (Some row) None differ ∙ was.1,
          subst (IsUnpatched was.0) (sym (left_of done (bytes ∷ []) k before)) was.2,
        )
  ];
  rest = λ k above.
      let long : length (done ++ bytes ∷ []) ≡ length done + 1 = length-append done (bytes ∷ []) in
      get_or-set_other rows n k (Some row) None (λ same. absurd (omega (arith, above, long, place, same))) ∙ filled.rest k (omega (arith, above, long));
}

pub all_filled : (rows : List (Option Resident)) (done : List (List ℕ)) (total : ℕ) → AreFilled rows done total → total ≡ length done → AreUnpatched rows done
all_filled rows done total filled is = record { many = filled.many ∙ is; each = filled.each }

-- a cache of these blocks, with nothing made, sent or in flight
pub opened : (rows : List (Option Resident)) (bytes : List (List ℕ)) (g : Graph) (trace : List Step) → AreUnpatched rows bytes → IsGraphOf g []
    → 0 < length bytes → length bytes ≤ MAX_CACHED
    → IsCacheBy true (record { blocks = map state_in rows; writes = map write_in rows; graph = g; sends = 0; live = 0; trace = trace }) (record { first = bytes; steps = [] })
opened rows bytes g trace all empty some few = record {
  legal = record {
    some = some;
    few = few;
    blocks = All-from_get_or (λ b. length b ≡ BLOCK) bytes [] (λ i less. (all.each i less).2.state.coherent.long);
    steps = tt;
  };
  count = length-map rows state_in ∙ all.many;
  blocks = λ n there.
      let within : n < length (map state_in rows) = inside (map state_in rows) n there in
      let long = length-map rows state_in in
      let many = all.many in
      let row = all.each n (omega (arith, within, long, many)) in
      let here : slice_index_or (map state_in rows) n None ≡ Some row.0.state = state_at rows n ∙ ap state_in row.1 in
      subst (λ x. IsBlockOf (block_or_none x) [] (unpatched (slice_index_or bytes n []))) (sym here) row.2.state;
  absent = λ n less not.
      let row = all.each n less in
      absurd (both_ways _ not (ap is_some (state_at rows n ∙ ap state_in row.1)));
  resident = λ whole n less. ap is_some (state_at rows n ∙ ap state_in (all.each n less).1);
  writes = λ n less.
      let row = all.each n less in
      let here : slice_index_or (map write_in rows) n None ≡ None = write_at rows n ∙ ap write_in row.1 ∙ row.2.write in
      subst (IsWriteOf (record { first = bytes; steps = [] }) n) (sym here) refl;
  graph = empty;
  sends = refl;
  live = refl;
}

none_standing : (count n : ℕ) → slice_index_or (map state_in (replicate {A = Option Resident} count None)) n None ≡ None
none_standing zero n = refl
none_standing (suc c) zero = refl
none_standing (suc c) (suc n) = none_standing c n

none_written : (count n : ℕ) → slice_index_or (map write_in (replicate {A = Option Resident} count None)) n None ≡ None
none_written zero n = refl
none_written (suc c) zero = refl
none_written (suc c) (suc n) = none_written c n

pub none_resident : (rows : List (Option Resident)) (count n : ℕ) → rows ≡ replicate count None → is_some (slice_index_or (map state_in rows) n None) ≡ false
none_resident rows count n is = ap (λ rs. is_some (slice_index_or (map state_in rs) n None)) is ∙ ap is_some (none_standing count n)

-- a cache of so many blocks, of which none is resident
pub opened_empty : (rows : List (Option Resident)) (count : ℕ) (first : List (List ℕ)) (g : Graph) (trace : List Step) → rows ≡ replicate count None → AreBlocks count first → IsGraphOf g []
    → 0 < count → count ≤ MAX_CACHED
    → IsPagedCacheOf (record { blocks = map state_in rows; writes = map write_in rows; graph = g; sends = 0; live = 0; trace = trace }) (record { first = first; steps = [] })
opened_empty rows count first g trace is blocks empty some few = record {
  legal = (let many = blocks.many in record { some = omega (arith, many, some); few = omega (arith, many, few); blocks = blocks.long; steps = tt });
  count = length-map rows state_in ∙ ap length is ∙ length-replicate count None ∙ sym blocks.many;
  blocks = λ n there. absurd (both_ways _ (none_resident rows count n is) there);
  absent = λ n less not. refl;
  resident = λ whole. absurd (cc);
  writes = λ n less. subst (IsWriteOf (record { first = first; steps = [] }) n) (sym (ap (λ rs. slice_index_or (map write_in rs) n None) is ∙ none_written count n)) refl;
  graph = empty;
  sends = refl;
  live = refl;
}

-- none of them has a write under way
pub none_begun : (rows : List (Option Resident)) (count : ℕ) → rows ≡ replicate count None → count_by is_some (map write_in rows) ≡ 0
none_begun rows count is = ap (λ rs. count_by is_some (map write_in rs)) is ∙ by count
  where
    by : (n : ℕ) → count_by is_some (map write_in (replicate {A = Option Resident} n None)) ≡ 0
    by zero = refl
    by (suc n) = by n

each_none : (ws : List (Option Write)) → ((n : ℕ) → n < length ws → slice_index_or ws n None ≡ None) → count_by is_some ws ≡ 0
each_none [] none = refl
each_none (w ∷ ws) none =
    let first : w ≡ None = none 0 (omega arith) in
    rw first (each_none ws (λ n less. none (suc n) (omega arith)))

pub unpatched_none_begun : (rows : List (Option Resident)) (bytes : List (List ℕ)) → AreUnpatched rows bytes → count_by is_some (map write_in rows) ≡ 0
unpatched_none_begun rows bytes all =
    let long = length-map rows write_in in
    let many = all.many in
    each_none (map write_in rows) (λ n less.
    let row = all.each n (omega (arith, long, many, less)) in write_at rows n ∙ ap write_in row.1 ∙ row.2.write)
