-- Blocks of which no patch is live, as they come and go.
use Rattle.std.proofs.Common.{◌≡◌, ℕ, ◌+◌, ◌<◌, ◌∙◌, inl, inr, Bool, true, false, List, [], ◌∷◌, Option, Some, None, length, length-set, map, refl, sym, ap, subst, arith, cond}
use Rattle.std.specs.Prelude.{◌==◌, ◌&&◌, not, count_by, is_some, slice_index_or, slice_set}
use Rattle.std.specs.List.{list_all, list_any}
use Rattle.std.proofs.lemmas.Bool.{cases_Bool, cases_eq, and_parts, both_ways, eqb-true, eq-eqb, lt-leb}
use Rattle.std.proofs.lemmas.List.{get_or-set_same, get_or-set_other}
use Rattle.std.proofs.lemmas.List.Sums.{sum_by-cons}
use Rattle.patch_model.specs.Entry.{Entry, is_durable, is_flight, is_live, is_memory, marks_durable, marks_flight, marks_memory}
use Rattle.patch_model.specs.declared.patches.Mark.{Mark}
use Rattle.patch_model.specs.declared.patches.Mark.TheVariants.{Memory, Flight, Durable}
use Rattle.patch_model.specs.Execution.{Execution}
use Rattle.patch_model.specs.State.{state_of, entries_of, has_flight}
use Rattle.patch_model.specs.History.{History, history_of, of_block, cached}
use Rattle.patch_model.specs.Legal.{IsLegal}
use Rattle.patch_model.specs.Renewed.{is_clean, renewed}
use Rattle.patch_model.specs.Member.{In, In-filter, filter-In, list_all-at, list_all-from, list_any-at}
use Rattle.patch_stacks.specs.State.{Block, class_at, unlaid}
use Rattle.patch_model.specs.declared.refusals.RefusalKind.TheVariants as kind
use Rattle.patch_model.specs.Refusing.{bare as bare_of}
use Rattle.patch_view.specs.History.{IsCoherent, unpatched}
use Rattle.patch_view.specs.Meaning.{IsBlockOf}
use Rattle.patch_graph.specs.State.{Graph}
use Rattle.patch_graph.specs.Meaning.{IsGraphOf}
use Rattle.patch_model.specs.Step.{Step}
use Rattle.patch_cache.specs.Contents.{Contents, Resident, Write, write_at as write_in_cache, block_at, block_or_none, is_resident, state_in, write_in}
use Rattle.patch_cache.specs.Meaning.{IsCacheBy, IsPagedCacheOf, IsWriteOf}
use Rattle.patch_cache.specs.Paging.{with_admitted, why_not_evicted}
use Rattle.patch_cache.proofs.Permitting.{none_taken}
use Rattle.patch_cache.proofs.Refusing.{has_one}
use Rattle.patch_cache.proofs.Residency.{both_changed, contents_of, inside, map_set, resident_within, set_again, write_at, write_of_row, writes_set}

-- The bytes of a block without live patches stand for it.

pub clean_block : (h : History) (bytes : List ℕ) → IsCoherent h → list_all is_durable h.entries ≡ true → bytes ≡ cached h → IsBlockOf (unlaid bytes) [] h
clean_block h bytes coherent clean same = record {
  coherent = coherent;
  holds = none_taken h;
  bytes = same;
  classes = λ i less. absurd (omega arith);
  complete = λ e i live. absurd (both_ways _ live (list_all-at is_durable h.entries e clean i));
  distinct = λ i j less. absurd (omega arith);
  ordered = λ i j below less. absurd (omega arith);
  named = λ i j n less. absurd (omega arith);
}

-- and it has no record of any other
pub bare : (b : Block) (h : History) → IsBlockOf b [] h → list_all is_durable h.entries ≡ true → b ≡ unlaid (cached h)
bare b h is clean = by b.classes refl
  where
    by : (cs : List _) → b.classes ≡ cs → b ≡ unlaid (cached h)
    by [] none = rw (is.bytes, none) refl
    by (c ∷ cs) some =
        let class = is.classes 0 (rw some (omega arith)) in
        let e = list_any-at (λ e. e.class == (class_at b 0).name) h.entries class.known in
        absurd (both_ways _ (class.marked e.0 e.1 (eqb-true _ _ e.2)).0 (list_all-at is_durable h.entries e.0 clean e.1))

-- A block that is admitted.

pub admitted : (c : Contents) (block : ℕ) (bytes : List ℕ) (run : Execution) → IsPagedCacheOf c run → block < length c.blocks → is_resident c block ≡ false
    → IsCoherent (history_of run block) → cached (history_of run block) ≡ bytes → IsPagedCacheOf (with_admitted c block bytes) run
admitted c block bytes run at known not_there coherent same = record {
  legal = at.legal;
  count = length-set c.blocks block (Some (unlaid bytes)) ∙ at.count;
  blocks = λ n there. elim (cases_eq n block) [
    | inl is ↦
        let here : slice_index_or (slice_set c.blocks block (Some (unlaid bytes))) block None ≡ Some (unlaid bytes) = get_or-set_same c.blocks block (Some (unlaid bytes)) None known in
        let clean = at.absent block (let count = at.count in omega (arith, count, known)) not_there in
        subst (λ (k : ℕ). IsBlockOf (block_or_none (slice_index_or (slice_set c.blocks block (Some (unlaid bytes))) k None)) [] (history_of run k)) (sym is)
        (subst (λ x. IsBlockOf (block_or_none x) [] (history_of run block)) (sym here) (clean_block (history_of run block) bytes coherent clean (sym same)))
    | inr differ ↦
        let there_is : slice_index_or (slice_set c.blocks block (Some (unlaid bytes))) n None ≡ slice_index_or c.blocks n None = get_or-set_other c.blocks block n (Some (unlaid bytes)) None differ in
        subst (λ x. IsBlockOf (block_or_none x) [] (history_of run n)) (sym there_is) (at.blocks n (ap is_some (sym there_is) ∙ there))
  ];
  absent = λ n less not. elim (cases_eq n block) [
    | inl is ↦
        let here : slice_index_or (slice_set c.blocks block (Some (unlaid bytes))) block None ≡ Some (unlaid bytes) = get_or-set_same c.blocks block (Some (unlaid bytes)) None known in
        absurd (both_ways _ (ap (λ (k : ℕ). is_some (slice_index_or (slice_set c.blocks block (Some (unlaid bytes))) k None)) (sym is) ∙ not) (ap is_some here))
    | inr differ ↦ at.absent n less (ap is_some (sym (get_or-set_other c.blocks block n (Some (unlaid bytes)) None differ)) ∙ not)
  ];
  resident = λ all. absurd (cc);
  writes = at.writes;
  graph = at.graph;
  sends = at.sends;
  live = at.live;
}

-- A block that is let go.

pub evicted : (c : Contents) (block : ℕ) (graph : Graph) (run : Execution) → IsPagedCacheOf c run → is_clean run block ≡ true → IsGraphOf graph (entries_of run)
    → IsPagedCacheOf (record c { blocks = slice_set c.blocks block None; graph = graph }) run
evicted c block graph run at clean holds = record {
  legal = at.legal;
  count = length-set c.blocks block None ∙ at.count;
  blocks = λ n there. elim (cases_eq n block) [
    | inl is ↦ absurd (gone n is there)
    | inr differ ↦
        let there_is : slice_index_or (slice_set c.blocks block None) n None ≡ slice_index_or c.blocks n None = get_or-set_other c.blocks block n None None differ in
        subst (λ x. IsBlockOf (block_or_none x) [] (history_of run n)) (sym there_is) (at.blocks n (ap is_some (sym there_is) ∙ there))
  ];
  absent = λ n less not. elim (cases_eq n block) [
    | inl is ↦ ap (is_clean run) is ∙ clean
    | inr differ ↦ at.absent n less (ap is_some (sym (get_or-set_other c.blocks block n None None differ)) ∙ not)
  ];
  resident = λ all. absurd (cc);
  writes = at.writes;
  graph = holds;
  sends = at.sends;
  live = at.live;
}
  where
    gone : (n : ℕ) → n ≡ block → is_some (slice_index_or (slice_set c.blocks block None) n None) ≡ true → ⊥
    gone n is there =
        let within : n < length (slice_set c.blocks block None) = inside (slice_set c.blocks block None) n there in
        let long = length-set c.blocks block None in
        let here : slice_index_or (slice_set c.blocks block None) block None ≡ None = get_or-set_same c.blocks block None None (omega (arith, within, long, is)) in
        both_ways _ (ap is_some here) (ap (λ (k : ℕ). is_some (slice_index_or (slice_set c.blocks block None) k None)) (sym is) ∙ there)

-- a block with a write under way has a live patch
pub flying_is_live : (run : Execution) (block : ℕ) → list_any (λ e. is_flight e && e.patch.block == block) (entries_of run) ≡ true → is_clean run block ≡ false
flying_is_live run block some = elim (cases_Bool (is_clean run block)) [
  | inl clean ↦
      let e = list_any-at (λ e. is_flight e && e.patch.block == block) (entries_of run) some in
      let parts = and_parts (is_flight e.0) (e.0.patch.block == block) e.2 in
      let there = In-filter (λ e. e.patch.block == block) (entries_of run) e.0 e.1 parts.1 in
      absurd (not_both e.0 parts.0 (list_all-at is_durable (of_block block (entries_of run)) e.0 clean there))
  | inr not ↦ not
]
  where
    not_both : (e : Entry) → is_flight e ≡ true → is_durable e ≡ true → ⊥
    not_both e flies durable = by e.mark flies durable
      where
        by : (m : Mark) → marks_flight m ≡ true → marks_durable m ≡ true → ⊥
        by Memory a b = absurd (cc)
        by Flight a b = absurd (cc)
        by Durable a b = absurd (cc)

-- Where nothing is live.

none_of : (es : List Entry) → count_by is_live es ≡ 0 → (e : Entry) → In es e → is_durable e ≡ true
none_of [] none e i = absurd i
none_of (x ∷ es) none e i =
    let sum : count_by is_live (x ∷ es) ≡ cond (is_live x) 1 0 + count_by is_live es = sum_by-cons (λ y. cond (is_live y) 1 0) x es in
    elim (cases_Bool (is_durable x)) [
      | inl durable ↦
          let skipped : count_by is_live (x ∷ es) ≡ 0 + count_by is_live es = sum ∙ ap (λ (b : Bool). cond (not b) 1 0 + count_by is_live es) durable in
          let rest : count_by is_live es ≡ 0 = omega (arith, skipped, none) in
          elim i [ inl same ↦ sym (ap is_durable same) ∙ durable | inr j ↦ none_of es rest e j ]
      | inr live ↦
          let one : count_by is_live (x ∷ es) ≡ 1 + count_by is_live es = sum ∙ ap (λ (b : Bool). cond (not b) 1 0 + count_by is_live es) live in
          absurd (omega (arith, one, none))
    ]

pub all_clean : (run : Execution) → count_by is_live (entries_of run) ≡ 0 → (block : ℕ) → is_clean run block ≡ true
all_clean run none block =
    list_all-from is_durable (of_block block (entries_of run)) (λ e i. none_of (entries_of run) none e (filter-In (λ e. e.patch.block == block) (entries_of run) e i).0)

pub no_write : (run : Execution) (block : ℕ) (write : Option Write) → count_by is_live (entries_of run) ≡ 0
    → (has_flight (state_of run) block ≡ true → list_any (λ e. is_flight e && e.patch.block == block) (entries_of run) ≡ true)
    → IsWriteOf run block write → write ≡ None
no_write run block None none holds is = refl
no_write run block (Some write) none holds is =
    absurd (both_ways _ (flying_is_live run block (holds (has_one run block (Some write) is))) (all_clean run none block))

-- the cache begins anew
pub anew : (whole : Bool) (c : Contents) (graph : Graph) (trace : List Step) (run : Execution) → IsCacheBy whole c run → count_by is_live (entries_of run) ≡ 0 → IsGraphOf graph []
    → IsLegal (renewed run) → length (renewed run).first ≡ length run.first
    → ((b : ℕ) → b < length run.first → IsCoherent (history_of (renewed run) b))
    → ((b : ℕ) → b < length run.first → cached (history_of (renewed run) b) ≡ cached (history_of run b))
    → ((b : ℕ) → has_flight (state_of run) b ≡ true → list_any (λ e. is_flight e && e.patch.block == b) (entries_of run) ≡ true)
    → IsCacheBy whole (record c { graph = graph; sends = 0; live = 0; trace = trace }) (renewed run)
anew whole c graph trace run at none empty legal many coherent held holds = record {
  legal = legal;
  count = at.count ∙ sym many;
  blocks = λ b there.
      let known : b < length run.first = let within = resident_within c b there in let count = at.count in omega (arith, within, count) in
      let is : block_at c b ≡ unlaid (cached (history_of run b)) = bare (block_at c b) (history_of run b) (at.blocks b there) (all_clean run none b) in
      subst (λ x. IsBlockOf x [] (history_of (renewed run) b)) (sym is)
      (clean_block (history_of (renewed run) b) (cached (history_of run b)) (coherent b known) refl (sym (held b known)));
  absent = λ b less not. refl;
  resident = λ all b less. at.resident all b (omega (arith, many, less));
  writes = λ b less.
      let known : b < length run.first = omega (arith, many, less) in
      subst (IsWriteOf (renewed run) b) (sym (no_write run b (write_in_cache c b) none (holds b) (at.writes b known))) refl;
  graph = empty;
  sends = refl;
  live = refl;
}

-- The rows of a cache, as blocks come and go.

pub none_of_row : {X : Type 0} (o : Option X) → is_some o ≡ false → o ≡ None
none_of_row None not = refl
none_of_row (Some x) not = absurd (cc)

-- a row of bytes alone in a place that had none
pub admitted_is : (rows : List (Option Resident)) (graph : Graph) (sends live : ℕ) (trace : List Step) (place block : ℕ) (row : Resident) (bytes : List ℕ) (now : Contents)
    → contents_of rows graph sends live trace ≡ now → place ≡ block → is_some (slice_index_or rows place None) ≡ false → IsBlockOf row.state [] (unpatched bytes) → row.write ≡ None
    → contents_of (slice_set rows place (Some row)) graph sends live trace ≡ with_admitted now block bytes
admitted_is rows graph sends live trace place block row bytes now same is absent state none =
    let bytes_alone : row.state ≡ unlaid bytes = bare row.state (unpatched bytes) state refl in
    let written : slice_index_or (map write_in rows) block None ≡ None =
    ap (λ (n : ℕ). slice_index_or (map write_in rows) n None) (sym is) ∙ write_at rows place ∙ ap write_in (none_of_row (slice_index_or rows place None) absent) in
    let writes : slice_set (map write_in rows) block row.write ≡ map write_in rows = ap (slice_set (map write_in rows) block) none ∙ set_again (map write_in rows) block None None written in
    let changed : contents_of (slice_set rows place (Some row)) graph sends live trace
    ≡ record { blocks = slice_set (map state_in rows) block (Some row.state); writes = slice_set (map write_in rows) block row.write; graph = graph; sends = sends; live = live; trace = trace } =
    both_changed rows graph sends live trace place block row is in
    changed ∙ rw (bytes_alone, writes) refl ∙ ap (λ v. with_admitted v block bytes) same

pub admitted_count : (rows : List (Option Resident)) (place : ℕ) (row : Resident) → is_some (slice_index_or rows place None) ≡ false → row.write ≡ None
    → count_by is_some (map write_in (slice_set rows place (Some row))) ≡ count_by is_some (map write_in rows)
admitted_count rows place row absent none =
    let written : slice_index_or (map write_in rows) place None ≡ None = write_at rows place ∙ ap write_in (none_of_row (slice_index_or rows place None) absent) in
    writes_set rows place row ∙ ap (λ (w : Option Write). count_by is_some (slice_set (map write_in rows) place w)) none
    ∙ ap (λ (ws : List (Option Write)). count_by is_some ws) (set_again (map write_in rows) place None None written)

-- and a row that is taken out, with no write under way
pub evicted_is : (rows : List (Option Resident)) (graph other : Graph) (sends live : ℕ) (trace : List Step) (place block : ℕ) (row : Resident) (now : Contents)
    → contents_of rows graph sends live trace ≡ now → place ≡ block → slice_index_or rows place None ≡ Some row → row.write ≡ None
    → contents_of (slice_set rows place None) other sends live trace ≡ record now { blocks = slice_set now.blocks block None; graph = other }
evicted_is rows graph other sends live trace place block row now same is at none =
    let states : map state_in (slice_set rows place None) ≡ slice_set (map state_in rows) block None = map_set state_in rows place None ∙ ap (λ (n : ℕ). slice_set (map state_in rows) n None) is in
    let written : slice_index_or (map write_in rows) place None ≡ None = write_of_row rows place row at ∙ none in
    let writes : map write_in (slice_set rows place None) ≡ map write_in rows = map_set write_in rows place None ∙ set_again (map write_in rows) place None None written in
    rw (states, writes) refl ∙ ap (λ (v : Contents). let w : Contents = record v { blocks = slice_set v.blocks block None; graph = other } in w) same

pub evicted_count : (rows : List (Option Resident)) (place : ℕ) (row : Resident) → slice_index_or rows place None ≡ Some row → row.write ≡ None
    → count_by is_some (map write_in (slice_set rows place None)) ≡ count_by is_some (map write_in rows)
evicted_count rows place row at none =
    let written : slice_index_or (map write_in rows) place None ≡ None = write_of_row rows place row at ∙ none in
    ap (λ (ws : List (Option Write)). count_by is_some ws) (map_set write_in rows place None ∙ set_again (map write_in rows) place None None written)

pub nothing_against : (c : Contents) (run : Execution) (block : ℕ) → is_resident c block ≡ true → is_clean run block ≡ true → why_not_evicted c run block ≡ None
nothing_against c run block there clean = rw (lt-leb (length c.blocks) block (resident_within c block there), there, clean) refl

pub live_against : (c : Contents) (run : Execution) (block : ℕ) → is_resident c block ≡ true → is_clean run block ≡ false → why_not_evicted c run block ≡ Some (bare_of kind.Live)
live_against c run block there live = rw (lt-leb (length c.blocks) block (resident_within c block there), there, live) refl

-- a clean block has no patch in memory
pub none_in_memory : (run : Execution) (block : ℕ) (e : Entry) → is_clean run block ≡ true → In (entries_of run) e → e.patch.block ≡ block → is_memory e ≡ true → ⊥
none_in_memory run block e clean i here memory =
    let there = In-filter (λ f. f.patch.block == block) (entries_of run) e i (eq-eqb e.patch.block block here) in
    marks_apart e.mark memory (list_all-at is_durable (of_block block (entries_of run)) e clean there)
  where
    marks_apart : (m : Mark) → marks_memory m ≡ true → marks_durable m ≡ true → ⊥
    marks_apart Memory a b = absurd (cc)
    marks_apart Flight a b = absurd (cc)
    marks_apart Durable a b = absurd (cc)
