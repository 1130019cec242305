-- What a cache shows where one of its blocks changes.
use Rattle.std.proofs.Common.{Option, ◌≡◌, ℕ, zero, suc, ◌+◌, ◌<◌, ◌≤◌, ◌≢◌, ◌∙◌, inl, inr, true, false, List, [], ◌∷◌, length, Some, None, Result, Ok, Err, refl, sym, ap, subst, arith}
use Rattle.std.specs.Prelude.{Bool, ◌==◌, not, is_some, slice_get, slice_set, slice_index_or}
use Rattle.std.specs.Result.{MatchResult, OnErr}
use Rattle.std.specs.List.{AllByRecursion}
use Rattle.std.proofs.lemmas.Bool.{cases_Bool, and_parts, both_ways, eqb-true, eq-eqb}
use Rattle.std.proofs.lemmas.List.{get_or-set_same, get_or-set_other, set-set}
use Rattle.std.proofs.Math.ListN.{length-set}
use Rattle.patch_model.specs.declared.refusals.RefusalKind.TheVariants as kind
use Rattle.patch_model.specs.declared.patches.Mark.{Mark}
use Rattle.patch_model.specs.declared.patches.Mark.TheVariants.{Durable}
use Rattle.patch_model.specs.Entry.{Entry, is_durable, is_memory, marks_durable, marks_memory}
use Rattle.patch_model.specs.Execution.{Execution}
use Rattle.patch_model.specs.State.{entries_of}
use Rattle.patch_model.specs.History.{History, history_of, of_block, moved, Back as ClassBack}
use Rattle.patch_model.specs.Member.{In, Contains-from_In, filter-In}
use Rattle.patch_model.specs.Orderly.{IsOrderly, IsNumbered}
use Rattle.patch_model.specs.Ready.{IsRising}
use Rattle.patch_model.specs.Refusing.{bare, why_not_taken, why_not_put_back, class_named}
use Rattle.patch_stacks.specs.State.{Block, outline}
use Rattle.patch_view.specs.Meaning.{IsBlockOf}
use Rattle.patch_view.specs.Answers.{MayTake, IsTaken, IsPutBack, IsPutBackAnswer}
use Rattle.patch_stacks.specs.declared.refusals.TakeRefusal.{TakeRefusal as ViewTakeRefusal}
use Rattle.patch_stacks.specs.declared.refusals.PutBackRefusal.{PutBackRefusal}
use Rattle.patch_graph.specs.Meaning.{HasMark}
use Rattle.patch_cache.specs.Contents.{Contents, Resident, block_or_none, block_at, is_resident, with_block}
use Rattle.patch_cache.specs.Meaning.{Shows, IsCacheBy, ShowsBy, only_of}
use Rattle.patch_stacks.specs.Refusal.{take_cause as view_take_cause, put_back_cause}
use Rattle.patch_cache.specs.Viewing.{with_move, why_not_taken_of, IsViewOf}
use Rattle.patch_cache.specs.declared.asks.Move.TheVariants.{Take, Back}
use Rattle.patch_model.specs.Step.{Step}
use Rattle.patch_graph.specs.State.{Graph}
use Rattle.patch_cache.proofs.Residency.{contents_of, with_state, changed, block_of_row, at_block, resident_within, still_resident, set_again, some_block}

-- The classes that are taken, by blocks.

shows_alike : (whole : Bool) (c : Contents) (s t : ℕ → List ℕ) (run : Execution) → ((n : ℕ) → s n ≡ t n) → Shows whole c s run → Shows whole c t run
shows_alike whole c s t run same r = record {
  legal = r.legal;
  count = r.count;
  blocks = λ n h. subst (λ (names : List ℕ). IsBlockOf (block_at c n) names (history_of run n)) (same n) (r.blocks n h);
  absent = r.absent;
  resident = r.resident;
  writes = r.writes;
  graph = r.graph;
  sends = r.sends;
  live = r.live;
}

only_here : (block n : ℕ) (names : List ℕ) → n ≡ block → only_of block names n ≡ names
only_here block n names is = let t : (n == block) ≡ true = eq-eqb n block is in rw t refl

only_there : (block n : ℕ) (names : List ℕ) → (n == block) ≡ false → only_of block names n ≡ []
only_there block n names apart = rw apart refl

nothing : (block n : ℕ) → only_of block [] n ≡ []
nothing block n = elim (cases_Bool (n == block)) [ inl t ↦ rw t refl | inr f ↦ rw f refl ]

-- with nothing taken of the block nothing is taken at all
pub all_back : (whole : Bool) (c : Contents) (block : ℕ) (run : Execution) → ShowsBy whole c block [] run → IsCacheBy whole c run
all_back whole c block run r = shows_alike whole c (only_of block []) (λ n. []) run (nothing block) r

pub none_yet : (whole : Bool) (c : Contents) (block : ℕ) (run : Execution) → IsCacheBy whole c run → ShowsBy whole c block [] run
none_yet whole c block run r = shows_alike whole c (λ n. []) (only_of block []) run (λ n. sym (nothing block n)) r

-- One block.

-- one block in another state, all else as it was
in_place : (whole : Bool) (c : Contents) (block : ℕ) (b : Block) (names now : List ℕ) (run : Execution) → is_resident c block ≡ true → ShowsBy whole c block names run
    → IsBlockOf b now (history_of run block) → ShowsBy whole (with_block c block b) block now run
in_place whole c block b names now run h r at = record {
  legal = r.legal;
  count = length-set c.blocks block (Some b) ∙ r.count;
  blocks = λ n m. elim (cases_Bool (n == block)) [
    | inl t ↦
        let e : n ≡ block = eqb-true n block t in
        let here : block_at (with_block c block b) n ≡ b =
        ap (λ k. block_or_none (slice_index_or (slice_set c.blocks block (Some b)) k None)) e ∙ ap block_or_none (get_or-set_same c.blocks block (Some b) None (resident_within c block h)) in
        let there : IsBlockOf b now (history_of run n) = subst (λ (k : ℕ). IsBlockOf b now (history_of run k)) (sym e) at in
        subst (λ (x : Block). IsBlockOf x (only_of block now n) (history_of run n)) (sym here)
        (subst (λ (taken : List ℕ). IsBlockOf b taken (history_of run n)) (sym (only_here block n now e)) there)
    | inr f ↦
        let apart : n ≢ block = λ e. both_ways _ f (eq-eqb n block e) in
        let here : block_at (with_block c block b) n ≡ block_at c n = ap block_or_none (get_or-set_other c.blocks block n (Some b) None apart) in
        subst (λ (x : Block). IsBlockOf x (only_of block now n) (history_of run n)) (sym here)
        (subst (λ (taken : List ℕ). IsBlockOf (block_at c n) taken (history_of run n)) (only_there block n names f ∙ sym (only_there block n now f))
        (r.blocks n (sym (still_resident c.blocks block n b h) ∙ m)))
  ];
  absent = λ n less not. r.absent n less (sym (still_resident c.blocks block n b h) ∙ not);
  resident = λ all n less. still_resident c.blocks block n b h ∙ r.resident all n less;
  writes = r.writes;
  graph = r.graph;
  sends = r.sends;
  live = r.live;
}

-- Patches by their numbers.

all-In : (P : Entry → Type 0) (es : List Entry) → AllByRecursion P es → (e : Entry) → In es e → P e
all-In P [] h e i = absurd i
all-In P (x ∷ xs) h e (inl same) = subst P same h.0
all-In P (x ∷ xs) h e (inr i) = all-In P xs h.1 e i

-- rising numbers below a bound leave room for those behind them
rising_room : (e : Entry) (es : List Entry) (top : ℕ) → IsRising (e ∷ es) → ((x : Entry) → In (e ∷ es) x → x.patch.no < top) → e.patch.no + length es < top
rising_room e [] top h below = let b = below e (inl refl) in omega arith
rising_room e (x ∷ es) top h below =
    let b = rising_room x es top h.1 (λ z i. below z (inr i)) in
    let c : e.patch.no < x.patch.no = h.0.0 in omega arith

-- so one of as many as the bound stands at the place of its number
pub at_its_place : (es : List Entry) (low k : ℕ) (e : Entry) → IsRising es → ((x : Entry) → In es x → low ≤ x.patch.no) → ((x : Entry) → In es x → x.patch.no < low + length es)
    → In es e → e.patch.no ≡ low + k → slice_get es k ≡ Some e
at_its_place [] low k e h above below i is = absurd i
at_its_place (x ∷ es) low zero e h above below (inl same) is = ap (λ y. Some y) same
at_its_place (x ∷ es) low zero e h above below (inr i) is =
    let a = above x (inl refl) in
    let b : x.patch.no < e.patch.no = all-In (λ f. x.patch.no < f.patch.no) es h.0 e i in absurd (omega arith)
at_its_place (x ∷ es) low (suc k) e h above below (inl same) is =
    let room = rising_room x es (low + length (x ∷ es)) h below in
    let n = ap (λ y. y.patch.no) same in absurd (omega arith)
at_its_place (x ∷ es) low (suc k) e h above below (inr i) is =
    let a = above x (inl refl) in
    at_its_place es (low + 1) k e h.1
    (λ z j. let b : x.patch.no < z.patch.no = all-In (λ f. x.patch.no < f.patch.no) es h.0 z j in omega arith)
    (λ z j. let b = below z (inr j) in omega arith) i (omega arith)

-- the patch of this number, which has this mark, is the one at that place
pub marked_at : (all : List Entry) (n : ℕ) (mark : Mark) → IsOrderly all → IsNumbered all → HasMark all n mark → (e : Entry) × (slice_get all n ≡ Some e) × (e.mark ≡ mark)
marked_at all n mark o m (e, i, number, is) = (
  e,
  at_its_place all 0 n e o.rising (λ x j. omega arith) (λ x j. let b = m.below x (Contains-from_In all x j) in omega arith) i (omega arith),
  is,
)

-- Takes and puts back of a cache's block.

pub durable_stays : (whole : Bool) (c : Contents) (block number : ℕ) (names : List ℕ) (run : Execution) → ShowsBy whole c block names run → HasMark (entries_of run) number Durable
    → with_move run block names (Take number) ≡ Err (bare kind.Durable)
durable_stays whole c block number names run r m =
    let p = marked_at (entries_of run) number Durable r.graph.orderly r.graph.numbered m in
    let at : slice_get (entries_of run) number ≡ Some p.0 = p.1 in
    let t : is_durable p.0 ≡ true = ap marks_durable p.2 in
    let some : why_not_taken_of run block names number ≡ Some (bare kind.Durable) = rw (at, t, why_not_taken_of) refl in
    rw (some, with_move) refl

none_at : (es : List Entry) (n : ℕ) → length es ≤ n → slice_get es n ≡ None
none_at [] n h = refl
none_at (x ∷ xs) zero h = absurd (omega arith)
none_at (x ∷ xs) (suc n) h = none_at xs n (omega arith)

-- a patch that wasn't made can't be taken
pub unmade_stays : (block number : ℕ) (names : List ℕ) (run : Execution) → length (entries_of run) ≤ number → with_move run block names (Take number) ≡ Err (bare kind.Unknown)
unmade_stays block number names run past =
    let none : slice_get (entries_of run) number ≡ None = none_at (entries_of run) number past in
    let some : why_not_taken_of run block names number ≡ Some (bare kind.Unknown) = rw (none, why_not_taken_of) refl in
    rw (some, with_move) refl

-- of a patch that isn't on the disk the block alone decides
live_why : (whole : Bool) (c : Contents) (block number : ℕ) (names : List ℕ) (run : Execution) (mark : Mark) → ShowsBy whole c block names run → marks_durable mark ≡ false
    → HasMark (entries_of run) number mark → why_not_taken_of run block names number ≡ why_not_taken (history_of run block) names number
live_why whole c block number names run mark r live m =
    let p = marked_at (entries_of run) number mark r.graph.orderly r.graph.numbered m in
    let at : slice_get (entries_of run) number ≡ Some p.0 = p.1 in
    let f : is_durable p.0 ≡ false = ap marks_durable p.2 ∙ live in
    rw (at, f, why_not_taken_of) refl

-- a class may be taken only of a patch that was made and isn't on the disk
pub in_all : (all : List Entry) (h : History) (block : ℕ) (e : Entry) → h.entries ≡ of_block block all → In h.entries e → In all e
in_all all h block e is i = (filter-In (λ e. e.patch.block == block) all e (subst (λ (es : List Entry). In es e) is i)).0

pub not_made : (whole : Bool) (now : Contents) (block number : ℕ) (names : List ℕ) (run : Execution) → ShowsBy whole now block names run → length (entries_of run) ≤ number
    → MayTake (history_of run block) names number → ⊥
not_made whole now block number names run r past may =
    let i = in_all (entries_of run) (history_of run block) block may.patch refl may.named.is_in in
    let below = r.graph.numbered.below may.patch (Contains-from_In (entries_of run) may.patch i) in
    let number = may.named.number in omega arith

pub durable_is_left : (whole : Bool) (now : Contents) (block number : ℕ) (names : List ℕ) (run : Execution) → ShowsBy whole now block names run → HasMark (entries_of run) number Durable
    → MayTake (history_of run block) names number → ⊥
durable_is_left whole now block number names run r (e, i, is, mark) may =
    let j = in_all (entries_of run) (history_of run block) block may.patch refl may.named.is_in in
    let same : may.patch ≡ e =
    r.graph.orderly.apart may.patch e (Contains-from_In (entries_of run) may.patch j) (Contains-from_In (entries_of run) e i) (may.named.number ∙ sym is) in
    let memory : is_memory may.patch ≡ true = (and_parts (is_memory may.patch) (not may.patch.hard) may.undoable).0 in
    let stays : is_memory may.patch ≡ false = ap is_memory same ∙ ap marks_memory mark in
    both_ways _ stays memory

-- What a view leaves.

pub its_own_view : (c : Contents) (block : ℕ) → is_resident c block ≡ true → IsViewOf c block c
its_own_view c block is = record {
  resident = is;
  others = sym (ap (λ bs. record c { blocks = bs }) (set_again c.blocks block None (Some (block_at c block)) (some_block c block is)));
  outline = refl;
}

-- the block in one more state is the same as in that alone
set_once : (before : Contents) (block : ℕ) (b after : Block) → with_block (with_block before block b) block after ≡ with_block before block after
set_once before block b after = ap (λ bs. record before { blocks = bs }) (set-set before.blocks block (Some b) (Some after))

-- The row of a block is lent from the cache, which showed what it shows now, and comes back with another state.
module _ (now : Contents) (rows : List (Option Resident)) (graph : Graph) (sends live : ℕ) (trace : List Step) (place block : ℕ) (row : Resident)
    (same : contents_of rows graph sends live trace ≡ now) (is : place ≡ block) (value : slice_index_or rows place None ≡ Some row) where
  abbrev c : Contents
  c = contents_of rows graph sends live trace

  abbrev pub back_with : Block → Contents
  back_with after = contents_of (slice_set rows place (Some (with_state row after))) graph sends live trace

  held : slice_index_or now.blocks block None ≡ Some row.state
  held = subst (λ (v : Contents). slice_index_or v.blocks block None ≡ Some row.state) same (block_of_row rows block row (at_block rows place block row is value))

  pub known : is_resident now block ≡ true
  known = ap is_some held

  lent_is : block_at now block ≡ row.state
  lent_is = ap block_or_none held

  pub back_is : (after : Block) → back_with after ≡ with_block now block after
  back_is after = changed rows graph sends live trace place block row after is value ∙ ap (λ v. with_block v block after) same

  -- each other block is as resident as before
  pub still : (after : Block) (n : ℕ) → is_resident (back_with after) n ≡ is_resident now n
  still after n = ap (λ v. is_resident v n) (back_is after) ∙ still_resident now.blocks block n after known

  -- the block's records, where these of its classes are taken
  pub started : (whole : Bool) (names : List ℕ) (run : Execution) → ShowsBy whole now block names run → IsBlockOf row.state names (history_of run block)
  started whole names run r =
      let at = r.blocks block known in
      subst (λ (x : Block). IsBlockOf x names (history_of run block)) lent_is
      (subst (λ (taken : List ℕ). IsBlockOf (block_at now block) taken (history_of run block)) (only_here block block names refl) at)

  pub ended : (whole : Bool) (after : Block) (names left : List ℕ) (run : Execution) → ShowsBy whole now block names run
      → IsBlockOf after left (history_of run block) → ShowsBy whole (back_with after) block left run
  ended whole after names left run r at =
      subst (λ (v : Contents). ShowsBy whole v block left run) (sym (back_is after)) (in_place whole now block after names left run known r at)

  read : (after : Block) → block_at (back_with after) block ≡ after
  read after = ap (λ v. block_at v block) (back_is after) ∙ ap block_or_none (get_or-set_same now.blocks block (Some after) None (resident_within now block known))

  -- the block alone is another
  pub only_one : (after : Block) → back_with after ≡ with_block now block (block_at (back_with after) block)
  only_one after = back_is after ∙ ap (with_block now block) (sym (read after))

  -- the block as it was changes nothing
  pub as_was : (after : Block) → after ≡ row.state → back_with after ≡ now
  as_was after e = back_is after ∙ ap (with_block now block) e ∙ ap (λ bs. record now { blocks = bs }) (set_again now.blocks block None (Some row.state) held)

  -- with another state of the lent block the cache is another one's but for that block, as before
  another : (before : Contents) (after : Block) → IsViewOf before block now → back_with after ≡ with_block before block after
  another before after v = back_is after ∙ ap (λ w. with_block w block after) v.others ∙ set_once before block (block_at now block) after

  pub still_a_view : (before : Contents) (after : Block) → outline after ≡ outline row.state → IsViewOf before block now → IsViewOf before block (back_with after)
  still_a_view before after alike v = record {
    resident = v.resident;
    others = another before after v ∙ ap (with_block before block) (sym (read after));
    outline = ap outline (read after) ∙ alike ∙ sym (ap outline lent_is) ∙ v.outline;
  }

  -- where all is put back the cache is the one from before
  pub back_again : (whole : Bool) (before : Contents) (after : Block) (names : List ℕ) (run : Execution) → ShowsBy whole now block names run
      → IsCacheBy whole before run → IsViewOf before block now
      → ((h : History) (taken : List ℕ) (was : Block) → IsBlockOf row.state taken h → IsBlockOf was [] h → outline was ≡ outline row.state → after ≡ was)
      → back_with after ≡ before
  back_again whole before after names run r r0 v back =
      let there : is_resident before block ≡ true = v.resident in
      let outlined : outline (block_at before block) ≡ outline row.state = sym v.outline ∙ ap outline lent_is in
      let found : after ≡ block_at before block = back (history_of run block) names (block_at before block) (started whole names run r) (r0.blocks block there) outlined in
      another before after v ∙ ap (with_block before block) found
      ∙ ap (λ bs. record before { blocks = bs }) (set_again before.blocks block None (Some (block_at before block)) (some_block before block there))

  pub taken : (whole : Bool) (number : ℕ) (after : Block) (names : List ℕ) (run : Execution) (mark : Mark) → ShowsBy whole now block names run → marks_durable mark ≡ false
      → HasMark (entries_of run) number mark → ((h : History) (taken : List ℕ) → IsBlockOf row.state taken h → IsTaken h taken number after)
      → (left : List ℕ) × (with_move run block names (Take number) ≡ Ok left) × ShowsBy whole (back_with after) block left run
  taken whole number after names run mark r live m takes =
      let done = takes (history_of run block) names (started whole names run r) in
      let none : why_not_taken_of run block names number ≡ None = live_why whole now block number names run mark r live m ∙ done.none in
      (class_named (history_of run block) number ∷ names, rw (none, with_move) refl, ended whole after names _ run r done.represents)

  pub take_is_refused : (whole : Bool) (number : ℕ) (names : List ℕ) (run : Execution) (mark : Mark) (refusal : ViewTakeRefusal) → ShowsBy whole now block names run
      → marks_durable mark ≡ false → HasMark (entries_of run) number mark
      → ((h : History) (taken : List ℕ) → IsBlockOf row.state taken h → why_not_taken h taken number ≡ Some (view_take_cause refusal))
      → with_move run block names (Take number) ≡ Err (view_take_cause refusal)
  take_is_refused whole number names run mark refusal r live m why =
      let some : why_not_taken_of run block names number ≡ Some (view_take_cause refusal) =
      live_why whole now block number names run mark r live m ∙ why (history_of run block) names (started whole names run r) in
      rw (some, with_move) refl

  pub put_back : (whole : Bool) (number : ℕ) (after : Block) (names : List ℕ) (run : Execution) → ShowsBy whole now block names run
      → ((h : History) (taken : List ℕ) → IsBlockOf row.state taken h → IsPutBack h taken number after)
      → (left : List ℕ) × (with_move run block names (Back number) ≡ Ok left) × ShowsBy whole (back_with after) block left run
  put_back whole number after names run r back =
      let done = back (history_of run block) names (started whole names run r) in
      let none : why_not_put_back (history_of run block) names number ≡ None = done.none in
      (moved names (ClassBack (class_named (history_of run block) number)), rw (none, with_move) refl, ended whole after names _ run r done.represents)

  pub put_back_is_refused : (whole : Bool) (number : ℕ) (names : List ℕ) (run : Execution) (refusal : PutBackRefusal) → ShowsBy whole now block names run
      → ((h : History) (taken : List ℕ) → IsBlockOf row.state taken h → why_not_put_back h taken number ≡ Some (put_back_cause refusal))
      → with_move run block names (Back number) ≡ Err (put_back_cause refusal)
  put_back_is_refused whole number names run refusal r why =
      let some : why_not_put_back (history_of run block) names number ≡ Some (put_back_cause refusal) = why (history_of run block) names (started whole names run r) in
      rw (some, with_move) refl

  pub restored : (whole : Bool) (after : Block) (names : List ℕ) (run : Execution) → ShowsBy whole now block names run
      → ((h : History) (taken : List ℕ) → IsBlockOf row.state taken h → IsBlockOf after [] h) → IsCacheBy whole (back_with after) run
  restored whole after names run r back =
      all_back whole (back_with after) block run (ended whole after names [] run r (back (history_of run block) names (started whole names run r)))

  -- what the block's own put back gives, the cache's gives
  pub put_back_answer : {X : Type 0} → (r : Result X PutBackRefusal) (whole : Bool) (number : ℕ) (after : Block) (names : List ℕ) (run : Execution) → ShowsBy whole now block names run
      → ((h : History) (taken : List ℕ) → IsBlockOf row.state taken h → IsPutBackAnswer h taken number after r)
      → MatchResult r
      (λ done. (left : List ℕ) × (with_move run block names (Back number) ≡ Ok left) × ShowsBy whole (back_with after) block left run)
      (λ refusal. with_move run block names (Back number) ≡ Err (put_back_cause refusal))
  put_back_answer (Ok x) whole number after names run r answer = put_back whole number after names run r answer
  put_back_answer (Err e) whole number after names run r why = put_back_is_refused whole number names run e r why

  pub kept : {X : Type 0} → (r : Result X PutBackRefusal) (after : Block) → OnErr r (after ≡ row.state) → OnErr r (back_with after ≡ now)
  kept (Ok x) after same_state = tt
  kept (Err e) after same_state = as_was after same_state
