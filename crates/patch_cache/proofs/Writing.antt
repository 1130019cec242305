-- What a step leaves of a cache where it changes one block.
use Rattle.std.proofs.Common.{◌≡◌, ℕ, ◌<◌, ◌∙◌, inl, inr, Bool, true, false, List, [], ◌∷◌, length, length-set, get_or, set, filter, refl, sym, ap, arith, subst, Option, Some, None}
use Rattle.std.specs.Prelude.{◌==◌, ◌≢◌, not, count_by, Contains}
use Rattle.std.specs.List.{list_any}
use Rattle.std.proofs.lemmas.Bool.{cases_Bool, eqb-true, eqb-false, ne_eqb}
use Rattle.std.proofs.lemmas.List.{get_or-set_same, get_or-set_other}
use Rattle.std.proofs.lemmas.List.Elements.{Contains-append_left, Contains-append_right}
use Rattle.std.proofs.lemmas.List.Folds.{list_any-append}
use Rattle.patch_model.specs.Entry.{is_live}
use Rattle.patch_model.specs.Execution.{Execution, extended}
use Rattle.patch_model.specs.History.{history_of}
use Rattle.patch_model.specs.Legal.{IsLegal}
use Rattle.patch_model.specs.Member.{In, In-from_Contains, Contains-from_In, In-filter}
use Rattle.patch_model.specs.State.{entries_of, state_of, after_step, has_flight, flying_of, numbers_of}
use Rattle.patch_model.specs.Step.{Step, Send, Complete}
use Rattle.patch_stacks.specs.State.{Block}
use Rattle.patch_view.specs.Meaning.{IsBlockOf}
use Rattle.patch_graph.specs.State.{Graph}
use Rattle.patch_graph.specs.Meaning.{IsGraphOf}
use Rattle.patch_cache.specs.Contents.{Contents, Write, is_resident}
use Rattle.patch_cache.specs.Meaning.{IsCacheBy, IsWriteOf}
use Rattle.patch_cache.proofs.Residency.{apart, clean_stays, resident_within, still_resident}
use Rattle.patch_cache.proofs.Stepping.{block_stays}

-- what is known of an execution's new step, which is of the one block
pub record IsStepOf (run : Execution) (step : Step) (block : ℕ) : Type 0 where
  pub known : block < length run.first
  pub legal : IsLegal (extended run step)
  pub others : (other : ℕ) → other ≢ block → history_of (extended run step) other ≡ history_of run other
  pub writes : (other : ℕ) (w : Option Write) → other ≢ block → IsWriteOf run other w → IsWriteOf (extended run step) other w

pub stepped : (whole : Bool) (run : Execution) (step : Step) (c : Contents) (block : ℕ) (b : Block) (w : Option Write) (g : Graph) (sends live : ℕ) (trace : List Step)
    → IsCacheBy whole c run → length c.writes ≡ length c.blocks → is_resident c block ≡ true → IsStepOf run step block
    → IsBlockOf b [] (history_of (extended run step) block) → IsWriteOf (extended run step) block w → IsGraphOf g (entries_of (extended run step))
    → sends ≡ (state_of (extended run step)).sends → live ≡ count_by is_live (entries_of (extended run step))
    → IsCacheBy whole (record { blocks = set c.blocks block (Some b); writes = set c.writes block w; graph = g; sends = sends; live = live; trace = trace }) (extended run step)
stepped whole run step c block b w g sends live trace at long there is new write graph same_sends same_live = record {
  legal = is.legal;
  count = length-set c.blocks block (Some b) ∙ at.count;
  blocks = λ other k. block_stays c.blocks block b run (extended run step) other (resident_within c block there) is.others new
      (λ not. at.blocks other (sym (still_resident c.blocks block other b there) ∙ k));
  absent = λ other less not.
      let was_not : is_resident c other ≡ false = sym (still_resident c.blocks block other b there) ∙ not in
      clean_stays run (extended run step) other (is.others other (apart c block other there was_not)) (at.absent other less was_not);
  resident = λ all other less. still_resident c.blocks block other b there ∙ at.resident all other less;
  writes = λ other h. elim (cases_Bool (other == block)) [
    | inl t ↦
        let here : block ≡ other = sym (eqb-true other block t) in
        let set_there : get_or (set c.writes block w) block None ≡ w = get_or-set_same c.writes block w None (let n = resident_within c block there in omega (arith, long, n)) in
        subst (λ k. IsWriteOf (extended run step) k (get_or (set c.writes block w) k None)) here
        (subst (IsWriteOf (extended run step) block) (sym set_there) write)
    | inr f ↦
        let differ : other ≢ block = eqb-false other block f in
        let kept : get_or (set c.writes block w) other None ≡ get_or c.writes other None = get_or-set_other c.writes block other w None differ in
        subst (IsWriteOf (extended run step) other) (sym kept) (is.writes other (get_or c.writes other None) differ (at.writes other h))
  ];
  graph = graph;
  sends = same_sends;
  live = same_live;
}

-- a write that begins is one of its block, and those of other blocks are as they were
pub sent_here : (run : Execution) (block number : ℕ) (numbers : List ℕ) → state_of (extended run (Send block)) ≡ after_step (state_of run) (Send block)
    → number ≡ (state_of run).sends → numbers ≡ numbers_of (flying_of (entries_of (extended run (Send block))) block)
    → IsWriteOf (extended run (Send block)) block (Some (record { sequence = number; numbers = numbers }))
sent_here run block number numbers state is same = (
  subst (λ n. Contains (state_of (extended run (Send block))).flights (block, n)) (sym is)
      (subst (λ fs. Contains fs (block, (state_of run).sends)) (sym (ap (λ st. st.flights) state))
      (Contains-append_right (state_of run).flights ((block, (state_of run).sends) ∷ []) (block, (state_of run).sends) (0, omega arith, refl))),
  same,
)

pub sent_other : (run : Execution) (block other : ℕ) (w : Option Write) → state_of (extended run (Send block)) ≡ after_step (state_of run) (Send block) → other ≢ block
    → numbers_of (flying_of (entries_of (extended run (Send block))) other) ≡ numbers_of (flying_of (entries_of run) other)
    → IsWriteOf run other w → IsWriteOf (extended run (Send block)) other w
sent_other run block other None state differ same is =
    let apart : (block == other) ≡ false = ne_eqb block other (λ e. differ (sym e)) in
    ap (λ st. has_flight st other) state ∙ list_any-append (λ f. f.0 == other) (state_of run).flights ((block, (state_of run).sends) ∷ []) ∙ rw (is, apart) refl
sent_other run block other (Some write) state differ same is = (
  subst (λ fs. Contains fs (other, write.sequence)) (sym (ap (λ st. st.flights) state))
      (Contains-append_left (state_of run).flights ((block, (state_of run).sends) ∷ []) (other, write.sequence) is.0),
  is.1 ∙ sym same,
)

none_left : (block : ℕ) (fs : List (ℕ × ℕ)) → list_any (λ f. f.0 == block) (filter (λ f. not (f.0 == block)) fs) ≡ false
none_left block [] = refl
none_left block (f ∷ fs) = elim (cases_Bool (f.0 == block)) [ inl t ↦ rw t (none_left block fs) | inr u ↦ rw (u, u) (none_left block fs) ]

still_none : (other : ℕ) (keeps : ℕ × ℕ → Bool) (fs : List (ℕ × ℕ)) → list_any (λ f. f.0 == other) fs ≡ false → list_any (λ f. f.0 == other) (filter keeps fs) ≡ false
still_none other keeps [] h = refl
still_none other keeps (f ∷ fs) h = elim (cases_Bool (f.0 == other)) [
  | inl t ↦ absurd (let g = rw t at h in cc)
  | inr u ↦ elim (cases_Bool (keeps f)) [ inl k ↦ rw (k, u) (still_none other keeps fs (rw u at h)) | inr k ↦ rw k (still_none other keeps fs (rw u at h)) ]
]

-- a write that ends is its block's no more, and those of other blocks are as they were
pub landed_here : (run : Execution) (block : ℕ) → state_of (extended run (Complete block)) ≡ after_step (state_of run) (Complete block)
    → IsWriteOf (extended run (Complete block)) block None
landed_here run block state = ap (λ st. has_flight st block) state ∙ none_left block (state_of run).flights

pub landed_other : (run : Execution) (block other : ℕ) (w : Option Write) → state_of (extended run (Complete block)) ≡ after_step (state_of run) (Complete block) → other ≢ block
    → numbers_of (flying_of (entries_of (extended run (Complete block))) other) ≡ numbers_of (flying_of (entries_of run) other)
    → IsWriteOf run other w → IsWriteOf (extended run (Complete block)) other w
landed_other run block other None state differ same is =
    ap (λ st. has_flight st other) state ∙ still_none other (λ f. not (f.0 == block)) (state_of run).flights is
landed_other run block other (Some write) state differ same is =
    let apart : (other == block) ≡ false = ne_eqb other block differ in
    let kept : In (filter (λ f. not (f.0 == block)) (state_of run).flights) (other, write.sequence) =
    In-filter (λ f. not (f.0 == block)) (state_of run).flights (other, write.sequence) (In-from_Contains _ _ is.0) (ap not apart) in (
      subst (λ fs. Contains fs (other, write.sequence)) (sym (ap (λ st. st.flights) state)) (Contains-from_In _ _ kept),
      is.1 ∙ sym same,
    )
