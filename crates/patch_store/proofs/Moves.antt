-- Moves one behind another, and what a store is behind them.
use Rattle.std.proofs.Common.{◌≡◌, ℕ, zero, suc, ◌+◌, ◌≤◌, ◌∙◌, inl, inr, List, [], ◌∷◌, ◌++◌, length, take, get_or, append_assoc, refl, sym, ap, subst, arith}
use Rattle.std.specs.Prelude.{Option, Some, None, option_map}
use Rattle.std.specs.List.{range_with_len}
use Rattle.std.proofs.lemmas.Bool.{cases_eq, cases_lt}
use Rattle.std.proofs.lemmas.List.{length-append, take-append-le, get_or-set_same, get_or-set_other, set_past}
use Rattle.patch_model.specs.Step.{Step, Create, Merge, Send, Complete}
use Rattle.patch_model.specs.Execution.{followed_by}
use Rattle.patch_cache.specs.Meaning.{IsCacheOf}
use Rattle.patch_plans.specs.Groups.{Groups}
use Rattle.patch_frame.specs.Frame.{Content, spelling}
use Rattle.patch_frame.specs.Slot.{SlotFields}
use Rattle.patch_recovery.specs.Change.{Point, Made}
use Rattle.patch_plans.specs.declared.records.Extent.{Extent}
use Rattle.patch_plans.specs.Extents.{Extents, no_extent, pointed, extent_at, generation_at, offset_at}
use Rattle.patch_plans.specs.Extents as kept
use Rattle.patch_plans.specs.Planning.{touched, parts, names_behind, append_plan}
use Rattle.patch_plans.specs.Joining.{written-++, length-written}
use Rattle.patch_plans.specs.Writing as extents
use Rattle.patch_plans.specs.Writing.{Written, named_plan, with_patches, written, steps_by}
use Rattle.patch_history.specs.Choosing.{extent_for_move}
use Rattle.patch_history.specs.History.{IsWhole, IsCut}
use Rattle.patch_history.specs.Planning.{frame_plan, fill_plan, content_of, moves}
use Rattle.patch_history.specs.Shelf.{Shelf, after_plan}
use Rattle.patch_history.specs.Shelf as shelves
use Rattle.patch_history.specs.StoreState.{Standing, made_by, creates}
use Rattle.patch_history.specs.Steps.{ShelvesGoOn, WholesJoin}
use Rattle.patch_history.specs.Steps as plans
use Rattle.patch_store.specs.Meaning.{Store}
use Rattle.patch_store.specs.Framing.{StandsBehind}
use Rattle.patch_store.specs.Merging.{HasMerged}
use Rattle.patch_store.proofs.Counted.{creates_all, shelf_joined, parts_leave}
use Rattle.patch_store.proofs.Outcomes.{take_behind, merged_wider, merged_joined, outcomes_made}

-- Nobody's groups make a patch name more, and no group has it.

pub named_none : (gs : Groups) (n : ℕ) (plan : List Made) → named_plan gs None n plan ≡ plan
named_none gs n [] = refl
named_none gs n (m ∷ plan) = ap (λ rest. m ∷ rest) (named_none gs (n + 1) plan)

pub patches_none : (gs : Groups) (n count : ℕ) → with_patches gs None n count ≡ gs
patches_none gs n zero = refl
patches_none gs n (suc count) = patches_none gs (n + 1) count

-- What a move is.

pub some_plan : (p q : List Made) → Some p ≡ Some q → p ≡ q
some_plan p q is = cc

-- the first of some frames moves, and then the others
pub record IsMove (entries : List Content) (s : Shelf) (n : ℕ) (f : ℕ × SlotFields) (fs : List (ℕ × SlotFields)) (plan : List Made) : Type 0 where
  pub extent : ℕ
  pub chosen : extent_for_move s f.1.length ≡ Some extent
  pub others : List Made
  pub go_on : moves entries (after_plan s n (frame_plan s n extent f.0 (content_of entries f.1))) (n + length (frame_plan s n extent f.0 (content_of entries f.1))) fs ≡ Some others
  pub are : plan ≡ frame_plan s n extent f.0 (content_of entries f.1) ++ others

move_on : (entries : List Content) (s : Shelf) (n extent : ℕ) (f : ℕ × SlotFields) (fs : List (ℕ × SlotFields)) (plan : List Made) (o : Option (List Made))
    → extent_for_move s f.1.length ≡ Some extent
    → moves entries (after_plan s n (frame_plan s n extent f.0 (content_of entries f.1))) (n + length (frame_plan s n extent f.0 (content_of entries f.1))) fs ≡ o
    → option_map (λ rest. frame_plan s n extent f.0 (content_of entries f.1) ++ rest) o ≡ Some plan
    → IsMove entries s n f fs plan
move_on entries s n extent f fs plan None at rest h = absurd (let g : None ≡ Some plan = h in cc)
move_on entries s n extent f fs plan (Some others) at rest h =
    record { extent = extent; chosen = at; others = others; go_on = rest; are = some_plan _ _ (sym h) }

-- the moves where an extent is chosen or not
abbrev moved_to : List Content → Shelf → ℕ → ℕ × SlotFields → List (ℕ × SlotFields) → Option ℕ → Option (List Made)
moved_to entries s n f fs o = elim o [
  | None ↦ None
  | Some extent ↦ option_map (λ rest. frame_plan s n extent f.0 (content_of entries f.1) ++ rest)
      (moves entries (after_plan s n (frame_plan s n extent f.0 (content_of entries f.1))) (n + length (frame_plan s n extent f.0 (content_of entries f.1))) fs)
]

pub move_cases : (entries : List Content) (s : Shelf) (n : ℕ) (f : ℕ × SlotFields) (fs : List (ℕ × SlotFields)) (plan : List Made) (o : Option ℕ)
    → extent_for_move s f.1.length ≡ o → moves entries s n (f ∷ fs) ≡ Some plan → IsMove entries s n f fs plan
move_cases entries s n f fs plan None at h = absurd (let g : None ≡ Some plan = sym (ap (moved_to entries s n f fs) at) ∙ h in cc)
move_cases entries s n f fs plan (Some extent) at h =
    move_on entries s n extent f fs plan _ at refl (sym (ap (moved_to entries s n f fs) at) ∙ h)

pub move_made : (entries : List Content) (s : Shelf) (n extent : ℕ) (f : ℕ × SlotFields) (fs : List (ℕ × SlotFields)) (others : List Made)
    → extent_for_move s f.1.length ≡ Some extent
    → moves entries (after_plan s n (frame_plan s n extent f.0 (content_of entries f.1))) (n + length (frame_plan s n extent f.0 (content_of entries f.1))) fs ≡ Some others
    → moves entries s n (f ∷ fs) ≡ Some (frame_plan s n extent f.0 (content_of entries f.1) ++ others)
move_made entries s n extent f fs others at rest =
    ap (moved_to entries s n f fs) at ∙ ap (option_map (λ more. frame_plan s n extent f.0 (content_of entries f.1) ++ more)) rest

-- Where some frames move, and others behind them, all do.
pub moves_joined : (entries : List Content) (before fs : List (ℕ × SlotFields)) (s : Shelf) (n : ℕ) (p q : List Made)
    → moves entries s n before ≡ Some p → moves entries (after_plan s n p) (n + length p) fs ≡ Some q
    → moves entries s n (before ++ fs) ≡ Some (p ++ q)
moves_joined entries [] fs s n p q h k =
    let none : [] ≡ p = some_plan [] p h in
    subst (λ r. moves entries (after_plan s n r) (n + length r) fs ≡ Some q → moves entries s n fs ≡ Some (r ++ q)) none
    (λ is. ap (λ m. moves entries s m fs) (let e : n ≡ n + 0 = omega arith in e) ∙ is) k
moves_joined entries (f ∷ before) fs s n p q h k =
    let one_of = move_cases entries s n f before p (extent_for_move s f.1.length) refl h in
    let one : List Made = frame_plan s n one_of.extent f.0 (content_of entries f.1) in
    let others : List Made = one_of.others in
    let long = length-append one others in
    let go : moves entries (after_plan (after_plan s n one) (n + length one) others) (n + length one + length others) fs ≡ Some q =
    ap (λ t. moves entries t (n + length one + length others) fs) (sym (shelf_joined s n one others))
    ∙ ap (λ m. moves entries (after_plan s n (one ++ others)) m fs) (let e : n + length one + length others ≡ n + length (one ++ others) = omega (arith, long) in e)
    ∙ ap (λ r. moves entries (after_plan s n r) (n + length r) fs) (sym one_of.are) ∙ k in
    let rest = moves_joined entries before fs (after_plan s n one) (n + length one) others q one_of.go_on go in
    move_made entries s n one_of.extent f (before ++ fs) (others ++ q) one_of.chosen rest
    ∙ ap (λ r. Some r) (sym (append_assoc one others q) ∙ ap (λ r. r ++ q) (sym one_of.are))

-- Moves keep the generation of each extent.

point_keeps : (s : Extents) (n e offset x : ℕ) → generation_at (kept.after_point s n e (generation_at s e) offset) x ≡ generation_at s x
point_keeps s n e offset x = elim (cases_eq x e) [
  | inl same ↦ elim (cases_lt e (length s.each)) [
    | inl within ↦ ap (generation_at (kept.after_point s n e (generation_at s e) offset)) same
        ∙ ap (λ (k : Extent). k.pointer.generation) (get_or-set_same s.each e (pointed n (generation_at s e) offset (extent_at s e)) no_extent within)
        ∙ ap (generation_at s) (sym same)
    | inr past ↦ ap (λ (each : List Extent). (get_or each x no_extent).pointer.generation)
        (set_past s.each e (pointed n (generation_at s e) offset (extent_at s e)) past)
  ]
  | inr other ↦ ap (λ (k : Extent). k.pointer.generation) (get_or-set_other s.each e x (pointed n (generation_at s e) offset (extent_at s e)) no_extent other)
]

append_keeps : (s : Shelf) (n e : ℕ) (bytes : List ℕ) (x : ℕ) → generation_at (after_plan s n (append_plan s.extents n e bytes [])).extents x ≡ generation_at s.extents x
append_keeps s n e bytes x =
    let o = offset_at s.extents e in
    let g = generation_at s.extents e in
    let count = touched o (length bytes) in
    let first : List Made = parts e o bytes (names_behind s.extents e []) count in
    let point : Made = record { change = Point e g (o + length bytes); after = range_with_len n count } in
    let k = n + length first in
    ap (λ (t : Shelf). generation_at t.extents x)
    (shelf_joined s n first (point ∷ [])
    ∙ ap (λ t. shelves.after_point t k e g (o + length bytes)) (parts_leave s n e o bytes (names_behind s.extents e []) (range_with_len 0 count)))
    ∙ point_keeps s.extents k e (o + length bytes) x

frame_keeps : (s : Shelf) (n e slot : ℕ) (c : Content) (x : ℕ) → generation_at (after_plan s n (frame_plan s n e slot c)).extents x ≡ generation_at s.extents x
frame_keeps s n e slot c x =
    let bytes : List ℕ = spelling c in
    ap (λ (t : Shelf). generation_at t.extents x) (shelf_joined s n (append_plan s.extents n e bytes []) (fill_plan s n e slot c ∷ []))
    ∙ append_keeps s n e bytes x

pub moves_keep : (entries : List Content) (fs : List (ℕ × SlotFields)) (s : Shelf) (n : ℕ) (p : List Made) → moves entries s n fs ≡ Some p
    → (x : ℕ) → generation_at (after_plan s n p).extents x ≡ generation_at s.extents x
moves_keep entries [] s n p h x = ap (λ r. generation_at (after_plan s n r).extents x) (sym (some_plan [] p h))
moves_keep entries (f ∷ fs) s n p h x =
    let one_of = move_cases entries s n f fs p (extent_for_move s f.1.length) refl h in
    let one : List Made = frame_plan s n one_of.extent f.0 (content_of entries f.1) in
    ap (λ r. generation_at (after_plan s n r).extents x) one_of.are
    ∙ ap (λ (t : Shelf). generation_at t.extents x) (shelf_joined s n one one_of.others)
    ∙ moves_keep entries fs (after_plan s n one) (n + length one) one_of.others one_of.go_on x
    ∙ frame_keeps s n one_of.extent f.0 (content_of entries f.1) x

-- How many patches some steps make, and others behind them.

pub creates_joined : (steps more : List Step) → creates (steps ++ more) ≡ creates steps + creates more
creates_joined [] more = omega arith
creates_joined (Create block start bytes after undo ∷ steps) more = let e = creates_joined steps more in omega (arith, e)
creates_joined (Merge a b ∷ steps) more = creates_joined steps more
creates_joined (Send block ∷ steps) more = creates_joined steps more
creates_joined (Complete block ∷ steps) more = creates_joined steps more

pub whole_few : (st : Standing) (plan : List Made) (steps : List Step) → IsWhole st plan steps → creates steps ≤ length plan
whole_few st plan steps whole = let e = creates_all st plan steps whole in omega (arith, e)

pub cut_few : (st : Standing) (plan : List Made) (steps : List Step) → IsCut st plan steps → creates steps ≤ length plan
cut_few st plan steps cut =
    let e = creates_joined steps cut.0 in
    let all = creates_all st plan (steps ++ cut.0) cut.2 in
    omega (arith, e, all)

-- A store behind one plan and then another.

-- a standing behind the steps of a plan of nobody
pub record IsLater (st : Standing) (plan : List Made) (steps : List Step) (later : Standing) : Type 0 where
  pub run_is : later.run ≡ followed_by st.run steps
  pub groups_are : later.groups ≡ st.groups
  pub shelf_is : later.shelf ≡ after_plan st.shelf (made_by st) plan
  pub made_is : made_by later ≡ made_by st + length plan
  pub map_is : later.map ≡ st.map

-- the merges of both, one behind the other
join_merged : ShelvesGoOn → (st later : Standing) (p q : List Made) (steps more : List Step) (before between after : ℕ) → IsLater st p steps later
    → creates steps ≡ length p → HasMerged st.run (written st.shelf.extents (made_by st) p) steps before between
    → HasMerged later.run (written later.shelf.extents (made_by later) q) more between after
    → HasMerged st.run (written st.shelf.extents (made_by st) (p ++ q)) (steps ++ more) before after
join_merged go st later p q steps more before between after is all a b =
    let s : Extents = st.shelf.extents in
    let n = made_by st in
    let first : List Written = written s n p in
    let last : List Written = written (extents.after_plan s n p) (n + length p) q in
    let extents_are : later.shelf.extents ≡ extents.after_plan s n p = ap (λ (x : Shelf). x.extents) is.shelf_is ∙ go st.shelf n p in
    let there : HasMerged (followed_by st.run steps) last more between after =
    subst (λ run. HasMerged run last more between after) is.run_is
    (subst (λ k. HasMerged later.run (written (extents.after_plan s n p) k q) more between after) is.made_is
    (subst (λ x. HasMerged later.run (written x (made_by later) q) more between after) extents_are b)) in
    subst (λ ws. HasMerged st.run ws (steps ++ more) before after) (sym (written-++ s n p q))
    (merged_joined st.run first last steps more before between after a
    (outcomes_made st.run s n p steps before between a ∙ all ∙ sym (length-written s n p)) there)

pub join_stands : ShelvesGoOn → (st later : Standing) (p q : List Made) (steps more : List Step) (old mid new : Store) → IsLater st p steps later
    → creates steps ≡ length p → StandsBehind st None p steps old mid → StandsBehind later None q more mid new
    → StandsBehind st None (p ++ q) (steps ++ more) old new
join_stands go st later p q steps more old mid new is all a b =
    let n = made_by st in
    let count : creates (steps ++ more) ≡ length p + creates more = (let e = creates_joined steps more in omega (arith, e, all)) in
    record {
      cache_is = subst (λ xs. IsCacheOf new.cache (record st.run { steps = xs })) (append_assoc st.run.steps steps more)
          (subst (λ run. IsCacheOf new.cache (followed_by run more)) is.run_is b.cache_is);
      trace_is = b.trace_is ∙ ap (λ t. t ++ more) a.trace_is ∙ append_assoc old.cache.trace steps more;
      groups_are = b.groups_are ∙ patches_none later.groups (made_by later) (creates more) ∙ is.groups_are
          ∙ sym (patches_none st.groups n (creates (steps ++ more)));
      shelf_is = b.shelf_is ∙ ap (λ t. after_plan t (made_by later) (take (creates more) q)) is.shelf_is
          ∙ ap (λ k. after_plan (after_plan st.shelf n p) k (take (creates more) q)) is.made_is
          ∙ sym (shelf_joined st.shelf n p (take (creates more) q))
          ∙ sym (ap (after_plan st.shelf n) (take_behind p q (creates more) (creates (steps ++ more)) count));
      merged = join_merged go st later p q steps more old.left_out mid.left_out new.left_out is all a.merged b.merged;
    }

-- some first steps of a plan are those of a longer one
pub widen_stands : (st : Standing) (p q : List Made) (steps : List Step) (old new : Store) → creates steps ≤ length p
    → StandsBehind st None p steps old new → StandsBehind st None (p ++ q) steps old new
widen_stands st p q steps old new few a = record {
  cache_is = a.cache_is;
  trace_is = a.trace_is;
  groups_are = a.groups_are;
  shelf_is = a.shelf_is ∙ ap (after_plan st.shelf (made_by st)) (sym (take-append-le (creates steps) p q few));
  merged = subst (λ ws. HasMerged st.run ws steps old.left_out new.left_out) (sym (written-++ st.shelf.extents (made_by st) p q))
      (merged_wider st.run (written st.shelf.extents (made_by st) p) _ steps old.left_out new.left_out a.merged);
}

none_in_front : (xs ys : List Step) → xs ++ ys ≡ [] → xs ≡ []
none_in_front [] ys is = refl
none_in_front (x ∷ xs) ys is = absurd (let g : x ∷ (xs ++ ys) ≡ [] = is in cc)

pub cut_longer : WholesJoin → (st : Standing) (p q : List Made) (steps : List Step) → IsCut st p steps → IsCut st (p ++ q) steps
cut_longer joins st p q steps cut =
    let later : Standing = record st { shelf = record st.shelf { extents = extents.after_plan st.shelf.extents (made_by st) p }; made = p ++ st.made } in
    let long = length-append p st.made in
    let behind : plans.StandsBehind st p later = record { extents = refl; made = (let e : length (p ++ st.made) ≡ length st.made + length p = omega (arith, long) in e) } in
    let more : List Step = steps_by [] (written later.shelf.extents (made_by later) q) in
    let whole = joins st later p q (steps ++ cut.0) more behind cut.2 ([], refl) in (
      cut.0 ++ more,
      λ none. cut.1 (none_in_front cut.0 more none),
      subst (IsWhole st (p ++ q)) (append_assoc steps cut.0 more) whole,
    )
