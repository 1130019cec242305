-- A frame that is appended, and then named by a slot.
use Rattle.std.proofs.Common.{◌≡◌, ℕ, suc, ◌+◌, ◌<◌, ◌∙◌, Bool, List, [], ◌∷◌, ◌++◌, length, take, refl, sym, ap, subst, arith}
use Rattle.std.specs.Prelude.{Option, Some, None, slice_set, slice_index_or}
use Rattle.std.proofs.lemmas.List.{length-append, length-take-le, take-append-le, take_all, append_assoc, append-nil}
use Rattle.patch_model.specs.Step.{Step}
use Rattle.patch_model.specs.Execution.{Execution, followed_by}
use Rattle.patch_model.specs.State.{entries_of}
use Rattle.patch_model.specs.declared.patches.Undo.TheVariants.{MayDrop}
use Rattle.patch_cache.specs.Contents.{Contents}
use Rattle.patch_cache.specs.Meaning.{IsCacheOf}
use Rattle.patch_plans.specs.Groups.{Groups, patch_of, with_patch}
use Rattle.patch_frame.specs.Frame.{Content, spelling, length_of}
use Rattle.patch_frame.specs.Geometry.{slot_block, slot_start}
use Rattle.patch_frame.specs.Slot.{SlotFields}
use Rattle.patch_frame.specs.Slot as slots
use Rattle.patch_recovery.specs.Change.{Fill, Made}
use Rattle.patch_extent.specs.Answers.{setting, asked, IsSettingOf, Append, IsAppended, IsBegun, plan_of}
use Rattle.patch_extent.specs.declared.places.Appended.{Appended}
use Rattle.patch_extent.specs.Appending.{IsPatched}
use Rattle.patch_plans.specs.Extents.{offset_at}
use Rattle.patch_plans.specs.Planning.{touched, append_plan}
use Rattle.patch_plans.specs.Writing as extents
use Rattle.patch_plans.specs.Writing.{with_patches, written, steps_of}
use Rattle.patch_history.specs.History.{IsWhole}
use Rattle.patch_history.specs.Planning.{fields_for}
use Rattle.patch_history.specs.Shelf.{Shelf, slot_at, leaving, after_change, after_plan}
use Rattle.patch_history.specs.StoreState.{Standing, made_by, creates}
use Rattle.patch_history.specs.Steps.{FramePut, appended, filled, framed, steps_made, slot_steps, FramesCompose, AppendsAreCuts, BegunAppendsAreCuts, ShelvesGoOn}
use Rattle.patch_store.specs.Meaning.{Store}
use Rattle.patch_store.specs.Merging.{counted_with, HasMerged}
use Rattle.patch_store.proofs.Merged.{AppendMerged, append_merged, appended_merged, some_merged, frame_merged}
use Rattle.patch_store.proofs.Outcomes.{merged_none}
use Rattle.patch_store.specs.Framing.{setting_of, next_fields, names_behind, IsFilled, IsFrameAppended, IsFrameBegun, framing, IsAsked, IsFramed, IsFramedInPart}
use Rattle.patch_store.proofs.Counted.{creates_all, creates_of, length-named, with_more, shelf_named, shelf_taken, shelf_joined, shelf_appended, shelf_begun}

take_front : {X : Type 0} (xs ys : List X) → take (length xs) (xs ++ ys) ≡ xs
take_front xs ys = take-append-le (length xs) xs ys (omega arith) ∙ take_all (length xs) xs (omega arith)

-- the store that stands so, with this cache
abbrev pub store_at : Standing → Contents → ℕ → Store
store_at st cache left_out = record { cache = cache; groups = st.groups; shelf = st.shelf; left_out = left_out }

pub store_is : (st : Standing) (s : Store) → s.groups ≡ st.groups → s.shelf ≡ st.shelf → s ≡ store_at st s.cache s.left_out
store_is st s groups shelf = ap (λ g. record s { groups = g }) groups ∙ ap (λ x. record (store_at st s.cache s.left_out) { shelf = x }) shelf

-- a patch whose block, start and bytes are told otherwise
pub patched_as : {block b start s : ℕ} {bytes bs : List ℕ} {writer : Option ℕ} {after : List ℕ} {groups groups_now : Groups} {cache cache_now : Contents} {made : ℕ}
    → block ≡ b → start ≡ s → bytes ≡ bs → IsPatched block start bytes writer after groups cache groups_now cache_now made
    → IsPatched b s bs writer after groups cache groups_now cache_now made
patched_as {b = b} {start = start} {s = s} {bytes = bytes} {writer = writer} {after = after} {groups = groups} {groups_now = groups_now} {cache = cache} {cache_now = cache_now} {made = made} x y z is =
    subst (λ t. IsPatched b s t writer after groups cache groups_now cache_now made) z
    (subst (λ t. IsPatched b t bytes writer after groups cache groups_now cache_now made) y
    (subst (λ t. IsPatched t start bytes writer after groups cache groups_now cache_now made) x is))

-- What the shelf keeps of a slot that is filled.

pub shelf_claimed : (s : Shelf) (n slot : ℕ) (f : SlotFields) (slots : List (Option SlotFields)) → slots ≡ slice_set s.slots slot (Some f) → slot_at s slot ≡ None
    → record s { slots = slots } ≡ after_change s n (Fill slot f)
shelf_claimed s n slot f slots a empty =
    ap (λ x. record s { slots = x }) a ∙ sym (ap (λ o. record s { slots = slice_set s.slots slot (Some f); left = leaving s.left n o }) empty)

pub shelf_refilled : (s : Shelf) (n slot : ℕ) (was f : SlotFields) (slots : List (Option SlotFields)) (left : List (List ℕ)) → slots ≡ slice_set s.slots slot (Some f)
    → slot_at s slot ≡ Some was → left ≡ slice_set s.left was.extent (slice_index_or s.left was.extent [] ++ n ∷ [])
    → record s { slots = slots; left = left } ≡ after_change s n (Fill slot f)
shelf_refilled s n slot was f slots left a used b =
    ap (λ x. record s { slots = x; left = left }) a
    ∙ ap (λ x. record s { slots = slice_set s.slots slot (Some f); left = x }) (b ∙ sym (ap (leaving s.left n) used))

pub filled_view : (writer : Option ℕ) (slot : ℕ) (f : SlotFields) (names : List ℕ) (made : ℕ) (old now new : Store) → old ≡ now
    → IsPatched (slot_block slot) (slot_start slot) (slots.spelling (Some f)) writer names old.groups old.cache new.groups new.cache made
    → new.shelf ≡ after_change old.shelf made (Fill slot f) → new.left_out ≡ old.left_out → IsFilled writer slot f names now new
filled_view writer slot f names made old now new is patched shelf left_out =
    subst (λ s. IsFilled writer slot f names s new) is (record { made = made; patched = patched; shelf_is = shelf; left_out_is = left_out })

pub appended_view : (a : Append) (old now new : Store) (told : Appended) → old ≡ now
    → ((run : Execution) → IsSettingOf (setting_of old) run → IsAppended run a (setting_of old) (setting_of new) told)
    → new.shelf ≡ record old.shelf { extents = new.shelf.extents; current = Some a.extent } → new.left_out ≡ counted_with old.left_out told.merge
    → IsFrameAppended a now new told.pointer_patch
appended_view a old now new told is answer shelf left_out =
    subst (λ s. IsFrameAppended a s new told.pointer_patch) is (record { appended = told; appended_is = answer; point_is = refl; shelf_is = shelf; left_out_is = left_out })

pub begun_view : (a : Append) (old now new : Store) → old ≡ now
    → ((run : Execution) → IsSettingOf (setting_of old) run → IsBegun run a.writer (plan_of run old.shelf.extents a) (setting_of old) (setting_of new))
    → new.shelf ≡ old.shelf → new.left_out ≡ old.left_out → IsFrameBegun a now new
begun_view a old now new is begun shelf left_out =
    subst (λ s. IsFrameBegun a s new) is (record { begun = begun; shelf_is = shelf; left_out_is = left_out })

-- Nothing was made yet.

one_more : {X : Type 0} (xs : List X) (x : X) → 0 < length (xs ++ x ∷ [])
one_more xs x = let e = length-append xs (x ∷ []) in omega (arith, e)

none_yet : BegunAppendsAreCuts → (f : FramePut) (cache : Contents) (left_out : ℕ) → IsCacheOf cache f.standing.run → IsFramedInPart f (store_at f.standing cache left_out) (store_at f.standing cache left_out)
none_yet cuts f cache left_out is = record {
  steps = [];
  cut = cuts f 0 (one_more _ _);
  stands = record {
    cache_is = subst (λ steps. IsCacheOf cache (record f.standing.run { steps = steps })) (sym (append-nil f.standing.run.steps)) is;
    trace_is = sym (append-nil cache.trace);
    groups_are = refl;
    shelf_is = refl;
    merged = merged_none f.standing.run (written f.standing.shelf.extents (made_by f.standing) (framed f)) left_out left_out refl;
  };
}

-- An append that is done.

record HasAppended (f : FramePut) (cache : Contents) (left_out : ℕ) (mid : Store) : Type 0 where
  pub choices : List Bool
  pub each : length choices ≡ length (appended f)
  pub cache_is : IsCacheOf mid.cache (followed_by f.standing.run (steps_made f choices (appended f)))
  pub counted : length (entries_of (followed_by f.standing.run (steps_made f choices (appended f)))) ≡ made_by f.standing + length (appended f)
  pub trace_is : mid.cache.trace ≡ cache.trace ++ steps_made f choices (appended f)
  pub groups_are : mid.groups ≡ with_patches f.standing.groups f.writer (made_by f.standing) (length (appended f))
  pub shelf_is : mid.shelf ≡ after_plan f.standing.shelf (made_by f.standing) (appended f)
  pub merged : AppendMerged f choices left_out mid.left_out

has_appended : ShelvesGoOn → (f : FramePut) (cache : Contents) (left_out : ℕ) (mid : Store) (point : ℕ)
    → IsSettingOf (setting f.standing.shelf.extents f.standing.groups cache) f.standing.run → length (entries_of f.standing.run) ≡ made_by f.standing
    → 0 < length (spelling f.content) → IsFrameAppended (asked f.writer f.extent (spelling f.content) []) (store_at f.standing cache left_out) mid point
    → HasAppended f cache left_out mid
has_appended go f cache left_out mid point stands count some app =
    let st = f.standing in
    let s = st.shelf in
    let ext = s.extents in
    let n = made_by st in
    let bytes : List ℕ = spelling f.content in
    let plan : ℕ → List Made = λ i. append_plan ext i f.extent bytes [] in
    let told = app.appended_is st.run stands in
    let written = told.is_written in
    let made = written.made in
    let cs = written.choices in
    let steps : ℕ → List Step = λ i. steps_of cs ext st.groups f.writer i (plan i) in
    record {
      choices = cs;
      each = written.each ∙ ap (λ i. length (plan i)) count;
      cache_is = subst (λ i. IsCacheOf mid.cache (followed_by st.run (steps i))) count made.stands.cache_is;
      counted = sym (ap (λ i. length (entries_of (followed_by st.run (steps i)))) count) ∙ made.counted ∙ ap (λ i. i + length (plan i)) count;
      trace_is = made.trace_is ∙ ap (λ i. cache.trace ++ steps i) count;
      groups_are = made.groups_are ∙ ap (λ i. with_patches st.groups f.writer i (length (plan i))) count;
      shelf_is = app.shelf_is
          ∙ ap (λ x. record s { extents = x; current = Some f.extent }) (made.extents_are ∙ ap (λ i. extents.after_plan ext i (plan i)) count)
          ∙ shelf_appended go s n f.extent bytes some;
      merged = subst (AppendMerged f cs left_out) (sym app.left_out_is)
          (append_merged f cache cs app.appended (written.each ∙ ap (λ i. length (plan i)) count) count some told.patch_is told.merge_is left_out);
    }

-- without the slot's patch
part_appended : AppendsAreCuts → (f : FramePut) (cache : Contents) (left_out : ℕ) (mid : Store) → HasAppended f cache left_out mid → IsFramedInPart f (store_at f.standing cache left_out) mid
part_appended cuts f cache left_out mid app =
    let st = f.standing in
    let n = made_by st in
    let steps = steps_made f app.choices (appended f) in
    let count : creates steps ≡ length (appended f) = creates_of app.choices st.shelf.extents st.groups f.writer n (appended f) in
    record {
      steps = steps;
      cut = cuts f app.choices app.each;
      stands = record {
        cache_is = app.cache_is;
        trace_is = app.trace_is;
        groups_are = app.groups_are ∙ ap (with_patches st.groups f.writer n) (sym count);
        shelf_is = app.shelf_is
            ∙ sym (ap (λ i. after_plan st.shelf n (take i (framed f))) count
            ∙ shelf_taken st.shelf n (length (appended f)) st.groups f.writer n (appended f ++ filled f ∷ [])
            ∙ ap (after_plan st.shelf n) (take_front (appended f) (filled f ∷ [])));
        merged = appended_merged f app.choices left_out mid.left_out app.merged;
      };
    }

-- with it
with_slot : FramesCompose → (f : FramePut) (cache : Contents) (left_out : ℕ) (mid new : Store) (fields : SlotFields) (names : List ℕ) → HasAppended f cache left_out mid
    → fields ≡ fields_for f.standing.shelf f.extent f.content → names ≡ (filled f).after → IsFilled f.writer f.slot fields names mid new
    → IsFramed f (store_at f.standing cache left_out) new
with_slot compose f cache left_out mid new fields names app said named is =
    let st = f.standing in
    let n = made_by st in
    let w = f.writer in
    let plan : List Made = appended f ++ filled f ∷ [] in
    let later = with_patches st.groups w n (length (appended f)) in
    let step : Groups → SlotFields → List ℕ → Step = λ gs x xs. patch_of gs w (slot_block f.slot) (slot_start f.slot) (slots.spelling (Some x)) xs MayDrop in
    let last = step mid.groups fields names in
    let tail : last ∷ [] ≡ slot_steps f =
    ap (λ gs. step gs fields names ∷ []) app.groups_are ∙ ap (λ x. step later x names ∷ []) said
    ∙ ap (λ xs. step later (fields_for st.shelf f.extent f.content) xs ∷ []) named in
    let first = steps_made f app.choices (appended f) in
    let whole : IsWhole st (framed f) (first ++ last ∷ []) = subst (IsWhole st (framed f)) (ap (λ xs. first ++ xs) (sym tail)) (compose f app.choices app.each) in
    let count : creates (first ++ last ∷ []) ≡ length (framed f) = creates_all st (framed f) (first ++ last ∷ []) whole in
    let long : length (framed f) ≡ suc (length (appended f)) =
    (let a = length-named st.groups w n plan in let b = length-append (appended f) (filled f ∷ []) in omega (arith, a, b)) in
    let number : is.made ≡ n + length (appended f) = is.patched.number (followed_by st.run first) app.cache_is ∙ app.counted in
    let before = after_plan st.shelf n (appended f) in
    record {
      steps = first ++ last ∷ [];
      whole = whole;
      stands = record {
        cache_is = subst (λ steps. IsCacheOf new.cache (record st.run { steps = steps })) (append_assoc st.run.steps first (last ∷ []))
            (is.patched.stands (followed_by st.run first) app.cache_is);
        trace_is = is.patched.trace_is ∙ ap (λ t. t ++ last ∷ []) app.trace_is ∙ append_assoc cache.trace first (last ∷ []);
        groups_are = is.patched.groups_are ∙ ap (λ gs. with_patch gs w is.made) app.groups_are ∙ ap (with_patch later w) number
            ∙ sym (with_more st.groups w n (length (appended f))) ∙ ap (with_patches st.groups w n) (sym (count ∙ long));
        shelf_is = is.shelf_is ∙ ap (λ t. after_change t is.made (Fill f.slot fields)) app.shelf_is
            ∙ ap (λ i. after_change before i (Fill f.slot fields)) number
            ∙ ap (λ x. after_change before (n + length (appended f)) (Fill f.slot x)) said
            ∙ sym (ap (λ i. after_plan st.shelf n (take i (framed f))) count
            ∙ ap (after_plan st.shelf n) (take_all (length (framed f)) (framed f) (omega arith))
            ∙ shelf_named st.shelf n st.groups w n plan
            ∙ shelf_joined st.shelf n (appended f) (filled f ∷ []));
        merged = subst (λ xs. HasMerged st.run (written st.shelf.extents n (framed f)) (first ++ xs) left_out new.left_out) (sym tail)
            (subst (HasMerged st.run (written st.shelf.extents n (framed f)) (first ++ slot_steps f) left_out) (sym is.left_out_is)
            (frame_merged f app.choices left_out mid.left_out app.merged));
      };
    }

-- An append that is begun.

part_begun : BegunAppendsAreCuts → (f : FramePut) (cache : Contents) (left_out : ℕ) (mid : Store)
    → IsSettingOf (setting f.standing.shelf.extents f.standing.groups cache) f.standing.run → length (entries_of f.standing.run) ≡ made_by f.standing
    → IsFrameBegun (asked f.writer f.extent (spelling f.content) []) (store_at f.standing cache left_out) mid → IsFramedInPart f (store_at f.standing cache left_out) mid
part_begun cuts f cache left_out mid stands count is =
    let st = f.standing in
    let s = st.shelf in
    let n = made_by st in
    let bytes : List ℕ = spelling f.content in
    let begun = is.begun st.run stands in
    let made = begun.made in
    let plan : ℕ → List Made = λ i. append_plan s.extents i f.extent bytes [] in
    let some : ℕ → List Made = λ i. take begun.count (plan i) in
    let steps : ℕ → List Step = λ i. steps_of [] s.extents st.groups f.writer i (some i) in
    let less : begun.count < length (appended f) = subst (λ i. begun.count < length (plan i)) count begun.not_all in
    let much : creates (steps n) ≡ begun.count =
    creates_of [] s.extents st.groups f.writer n (some n) ∙ length-take-le begun.count (appended f) (omega (arith, less)) in
    record {
      steps = steps n;
      cut = cuts f begun.count less;
      stands = record {
        cache_is = subst (λ i. IsCacheOf mid.cache (followed_by st.run (steps i))) count made.stands.cache_is;
        trace_is = made.trace_is ∙ ap (λ i. cache.trace ++ steps i) count;
        groups_are = made.groups_are ∙ ap (λ i. with_patches st.groups f.writer i (length (some i))) count
            ∙ ap (with_patches st.groups f.writer n) (sym (creates_of [] s.extents st.groups f.writer n (some n)));
        shelf_is = is.shelf_is
            ∙ sym (ap (λ i. after_plan s n (take i (framed f))) much
            ∙ shelf_taken s n begun.count st.groups f.writer n (appended f ++ filled f ∷ [])
            ∙ shelf_begun s n f.extent bytes (filled f ∷ []) begun.count less);
        merged = subst (HasMerged st.run (written s.extents n (framed f)) (steps n) left_out) (sym is.left_out_is)
            (some_merged f begun.count less left_out);
      };
    }

-- The same of a store that stands so.

module _ (writer : Option ℕ) (slot extent : ℕ) (key frame : List ℕ) (st : Standing) (c : Content) (old : Store) (asks : IsAsked st c key frame old) where
  abbrev f : FramePut
  f = framing st writer slot extent c

  same : old ≡ store_at st old.cache old.left_out
  same = store_is st old asks.groups_are asks.shelf_is

  stands : IsSettingOf (setting st.shelf.extents st.groups old.cache) st.run
  stands = subst (λ (s : Store). IsSettingOf (setting s.shelf.extents s.groups s.cache) st.run) same asks.setting_is

  pub none_so : BegunAppendsAreCuts → IsFramedInPart f old old
  none_so cuts = subst (λ s. IsFramedInPart f s s) (sym same) (none_yet cuts f old.cache old.left_out stands.cache_is)

  pub begun_so : BegunAppendsAreCuts → (new : Store) → IsFrameBegun (asked writer extent frame []) old new → IsFramedInPart f old new
  begun_so cuts new is =
      subst (λ s. IsFramedInPart f s new) (sym same) (part_begun cuts f old.cache old.left_out new stands asks.counted
      (subst (λ bytes. IsFrameBegun (asked writer extent bytes []) (store_at st old.cache old.left_out) new) asks.frame_is
      (subst (λ s. IsFrameBegun (asked writer extent frame []) s new) same is)))

  done : ShelvesGoOn → (mid : Store) (point : ℕ) → 0 < length frame → IsFrameAppended (asked writer extent frame []) old mid point → HasAppended f old.cache old.left_out mid
  done go mid point some is =
      has_appended go f old.cache old.left_out mid point stands asks.counted (subst (λ bytes. 0 < length bytes) asks.frame_is some)
      (subst (λ bytes. IsFrameAppended (asked writer extent bytes []) (store_at st old.cache old.left_out) mid point) asks.frame_is
      (subst (λ s. IsFrameAppended (asked writer extent frame []) s mid point) same is))

  pub appended_so : AppendsAreCuts → ShelvesGoOn → (mid new : Store) (point : ℕ) → 0 < length frame → IsFrameAppended (asked writer extent frame []) old mid point
      → new ≡ mid → IsFramedInPart f old new
  appended_so cuts go mid new point some is last =
      subst (λ s. IsFramedInPart f s new) (sym same)
      (subst (IsFramedInPart f (store_at st old.cache old.left_out)) (sym last) (part_appended cuts f old.cache old.left_out mid (done go mid point some is)))

  pub framed_so : FramesCompose → ShelvesGoOn → length (spelling c) ≡ length_of c → (mid new : Store) (point : ℕ) (fields : SlotFields) → 0 < length frame
      → IsFrameAppended (asked writer extent frame []) old mid point → fields ≡ next_fields old.shelf extent key (length frame)
      → IsFilled writer slot fields (names_behind mid.shelf slot point) mid new → IsFramed f old new
  framed_so compose go long mid new point fields some is said filled_is =
      let n = made_by st in
      let o = offset_at st.shelf.extents extent in
      let frame_long : length frame ≡ length_of c = ap length asks.frame_is ∙ long in
      let at : point ≡ n + touched o (length_of c) =
      is.point_is ∙ (is.appended_is st.run asks.setting_is).patch_is
      ∙ ap (λ (s : Shelf). length (entries_of st.run) + touched (offset_at s.extents extent) (length frame)) asks.shelf_is
      ∙ ap (λ i. i + touched o (length frame)) asks.counted ∙ ap (λ l. n + touched o l) frame_long in
      subst (λ s. IsFramed f s new) (sym same)
      (with_slot compose f old.cache old.left_out mid new fields (names_behind mid.shelf slot point) (done go mid point some is)
      (said ∙ ap (λ s. next_fields s extent key (length frame)) asks.shelf_is
      ∙ ap (λ k. next_fields st.shelf extent k (length frame)) asks.key_is ∙ ap (next_fields st.shelf extent c.key) frame_long)
      (ap (λ (s : Shelf). names_behind s slot point) (is.shelf_is ∙ ap (λ (s : Shelf). record s { extents = mid.shelf.extents; current = Some extent }) asks.shelf_is)
      ∙ ap (names_behind st.shelf slot) at)
      filled_is)
