-- The disk of a closed set of patches shows the ledger of their changes.
use Rattle.std.proofs.Common.{◌≡◌, ◌≢◌, ℕ, zero, suc, ◌+◌, ◌<◌, ◌≤◌, ◌∙◌, inl, inr, Bool, true, false, cond, List, []}
use Rattle.std.proofs.Common.{◌∷◌, ◌++◌, length, map, get_or, drop, Ok, refl, sym, ap, arith, subst}
use Rattle.std.specs.Prelude.{◌==◌, ◌&&◌, ◌||◌, not}
use Rattle.std.specs.List.{filter, range_with_len}
use Rattle.std.proofs.lemmas.Bool.{cases_Bool}
use Rattle.std.proofs.lemmas.Bool.Decides.{nat_tests}
use Rattle.std.proofs.lemmas.List.{same_lists, length-map, map-append, get_or_default}
use Rattle.std.proofs.lemmas.List.Elements.{filter-append}
use Rattle.std.proofs.lemmas.List.Sums.{fold-append}
use Rattle.std.proofs.lemmas.List.FromFn.{get_or-map-range_with_len, length-range_with_len}
use Rattle.patch_model.specs.Patch.{Patch}
use Rattle.patch_model.specs.Pile.{lay, pile}
use Rattle.patch_model.specs.Execution.{Execution}
use Rattle.patch_model.specs.Entry.{Entry}
use Rattle.patch_model.specs.Dependency.{depends_directly}
use Rattle.patch_model.specs.State.{entries_of}
use Rattle.patch_model.specs.History.{pile_of, history_of}
use Rattle.patch_model.specs.Crash.{IsClosed, disk_of}
use Rattle.patch_model.specs.Member.{In, Contains-from_In, filter-filter}
use Rattle.patch_frame.specs.declared.geometries.Geometry.{Geometry}
use Rattle.patch_recovery.specs.Change.{Change, Data, Point, Fill, Clear, Widen, Made, patch_of, patches_of}
use Rattle.patch_recovery.specs.Ledger.{Ledger, after, after_all, after_those, map_of, value_in, SaysSame}
use Rattle.patch_recovery.specs.Reading.{block_on}
use Rattle.patch_recovery.specs.Right.{IsRight, IsSound}
use Rattle.patch_recovery.specs.Orders.{comes_after}
use Rattle.patch_recovery.specs.Store.{IsOfStore}
use Rattle.patch_recovery.specs.Said.{speaks_of, said, value_read, last_said, Moves, AreMoves, last_word_kept}
use Rattle.patch_recovery.specs.Closed.{in_set, ledger_of, Opens}
use Rattle.patch_model.specs.Renewed.{cached_blocks}
use Rattle.patch_recovery.proofs.Blocks.{laid_here, laid_elsewhere}
use Rattle.patch_recovery.proofs.Agreeing.{AllKept, AreRight}
use Rattle.patch_recovery.proofs.Widening.{shape_those}
use Rattle.std.proofs.lemmas.Slice.Eq.{bytes_eq-Decides}
use Rattle.patch_recovery.proofs.Sound.{AreHeld, same_record, sound_those}
use Rattle.patch_recovery.proofs.Showing.{Formats}
use Rattle.patch_recovery.proofs.Disks.{those_laid, length-those_laid, shows_those}
use Rattle.patch_recovery.proofs.Held.{AreClosed, right_of, held_those}
use Rattle.patch_recovery.proofs.Opening.{opened}
use Rattle.patch_recovery.specs.Lasting.{Tells}
use Rattle.patch_recovery.proofs.LastSaid.{told_is, tells_those}
use Rattle.patch_recovery.proofs.Growing.{length-patches_of}
use Rattle.patch_recovery.proofs.Reopening.{Reopened, reopened}

-- ---- numbers

range_more : (a n : ℕ) → range_with_len a n ++ (a + n) ∷ [] ≡ range_with_len a (suc n)
range_more a zero = rw (let e : a + 0 ≡ a = omega arith in e) refl
range_more a (suc n) = ap (λ ns. a ∷ ns) (ap (λ k. range_with_len (a + 1) n ++ k ∷ [])
    (let e : a + suc n ≡ a + 1 + n = omega arith in e) ∙ range_more (a + 1) n)

-- the patches of changes are numbered from 0 on
pub numbers_of-patches : (g : Geometry) (ms : List Made)
    → map (λ p. p.no) (patches_of g ms) ≡ range_with_len 0 (length ms)
numbers_of-patches g [] = refl
numbers_of-patches g (made ∷ ms) = map-append (λ p. p.no) (patches_of g ms) (patch_of g (length ms) made ∷ [])
    ∙ ap (λ ns. ns ++ length ms ∷ []) (numbers_of-patches g ms)
    ∙ ap (λ k. range_with_len 0 (length ms) ++ k ∷ []) (let e : length ms ≡ 0 + length ms = omega arith in e)
    ∙ range_more 0 (length ms)

-- the numbers of these entries are those from a on
abbrev pub AreFrom : ℕ → List Entry → Type 0
AreFrom a [] = Unit {0}
AreFrom a (e ∷ es) = (e.patch.no ≡ a) × AreFrom (a + 1) es

from_above : (a : ℕ) (es : List Entry) → AreFrom a es → (e : Entry) → In es e → a ≤ e.patch.no
from_above a [] h e i = absurd i
from_above a (x ∷ es) h e (inl same) = let at : x.patch.no ≡ e.patch.no = ap (λ y. y.patch.no) same in
    let first = h.0 in omega arith
from_above a (x ∷ es) h e (inr i) = let more = from_above (a + 1) es h.1 e i in omega arith

none_below : (a : ℕ) (es : List Entry) (set : Entry → Bool) (n : ℕ) → AreFrom a es → n < a → in_set es set n ≡ false
none_below a [] set n h less = refl
none_below a (x ∷ es) set n h less =
    let other : (x.patch.no == n) ≡ false = let at = h.0 in grind (arith, nat_tests) in
    rw other (none_below (a + 1) es set n h.1 (omega arith))

in_set_is : (a : ℕ) (es : List Entry) (set : Entry → Bool) → AreFrom a es → (e : Entry) → In es e
    → in_set es set e.patch.no ≡ set e
in_set_is a [] set h e i = absurd i
in_set_is a (x ∷ es) set h e (inl same) =
    let at : x.patch.no ≡ e.patch.no = ap (λ y. y.patch.no) same in
    let one : (x.patch.no == e.patch.no) ≡ true = grind (arith, nat_tests) in
    let first = h.0 in
    let rest : in_set es set e.patch.no ≡ false = none_below (a + 1) es set e.patch.no h.1 (omega arith) in
    elim (cases_Bool (set x)) [
      | inl u ↦ rw (one, u) (sym u ∙ ap set same)
      | inr u ↦ rw (one, u) (rest ∙ sym u ∙ ap set same)
    ]
in_set_is a (x ∷ es) set h e (inr i) =
    let above = from_above (a + 1) es h.1 e i in
    let first = h.0 in
    let other : (x.patch.no == e.patch.no) ≡ false = grind (arith, nat_tests) in
    rw other (in_set_is (a + 1) es set h.1 e i)

-- entries with these numbers
pub from_numbers : (a : ℕ) (es : List Entry) (n : ℕ) → map (λ p. p.no) (map (λ e. e.patch) es) ≡ range_with_len a n
    → AreFrom a es
from_numbers a [] n h = tt
from_numbers a (e ∷ es) zero h = absurd (cc)
from_numbers a (e ∷ es) (suc n) h = (ap (λ ns. get_or ns 0 0) h, from_numbers (a + 1) es n (ap (λ ns. drop 1 ns) h))

-- ---- lists

map-In : (f : Entry → Patch) (xs : List Entry) (p : Patch) → In (map f xs) p → (e : Entry) × In xs e × (f e ≡ p)
map-In f [] p h = absurd h
map-In f (x ∷ xs) p (inl e) = (x, inl refl, e)
map-In f (x ∷ xs) p (inr h) = let r = map-In f xs p h in (r.0, inr r.1, r.2)

filter-same_In : (p q : Entry → Bool) (xs : List Entry) → ((x : Entry) → In xs x → p x ≡ q x)
    → filter p xs ≡ filter q xs
filter-same_In p q [] same = refl
filter-same_In p q (x ∷ xs) same = rw (same x (inl refl), filter-same_In p q xs (λ y i. same y (inr i))) refl

map-filter : (r : Patch → Bool) (es : List Entry) → map (λ e. e.patch) (filter (λ e. r e.patch) es)
    ≡ filter r (map (λ e. e.patch) es)
map-filter r [] = refl
map-filter r (e ∷ es) = elim (cases_Bool (r e.patch)) [
  | inl u ↦ rw u (ap (λ ps. e.patch ∷ ps) (map-filter r es))
  | inr u ↦ rw u (map-filter r es)
]

-- ---- disks

-- a patch of the block, and kept
abbrev kept_of : (ℕ → Bool) → ℕ → Patch → Bool
kept_of keeps block p = p.block == block && keeps p.no

last_kept : (keeps : ℕ → Bool) (g : Geometry) (first : List (List ℕ)) (block : ℕ) → block < length first
    → (made : Made) (ms : List Made) → length (those_laid keeps g first ms) ≡ length first
    → pile (block_on (those_laid keeps g first ms) block)
    (filter (kept_of keeps block) (patch_of g (length ms) made ∷ []))
    ≡ block_on (those_laid keeps g first (made ∷ ms)) block
last_kept keeps g first block there made ms long =
    let p : Patch = patch_of g (length ms) made in
    elim (cases_Bool (keeps (length ms))) [
      | inl u ↦ elim (cases_Bool ((patch_of g (length ms) made).block == block)) [
        | inl v ↦ let here : block ≡ p.block = grind (arith, nat_tests) in
            rw (u, v) (sym (laid_here (those_laid keeps g first ms) (patch_of g (length ms) made) block here
            (omega arith)))
        | inr v ↦ let away : block ≢ p.block = λ e. absurd (grind (arith, nat_tests)) in
            rw (u, v) (sym (laid_elsewhere (those_laid keeps g first ms) (patch_of g (length ms) made) block away))
      ]
      | inr u ↦ elim (cases_Bool ((patch_of g (length ms) made).block == block)) [
        | inl v ↦ rw (u, v) refl
        | inr v ↦ rw (u, v) refl
      ]
    ]

pile_kept : (keeps : ℕ → Bool) (g : Geometry) (first : List (List ℕ)) (block : ℕ) → block < length first
    → (ms : List Made)
    → pile (block_on first block) (filter (kept_of keeps block) (patches_of g ms))
    ≡ block_on (those_laid keeps g first ms) block
pile_kept keeps g first block there [] = refl
pile_kept keeps g first block there (made ∷ ms) =
    let p : Patch = patch_of g (length ms) made in
    let before = pile_kept keeps g first block there ms in
    let long = length-those_laid keeps g first ms in
    let split : pile (block_on first block) (filter (kept_of keeps block) (patches_of g ms ++ p ∷ []))
    ≡ pile (block_on first block) (filter (kept_of keeps block) (patches_of g ms)
    ++ filter (kept_of keeps block) (p ∷ [])) = ap (pile (block_on first block))
    (filter-append (kept_of keeps block) (patches_of g ms) (p ∷ [])) in
    let parted : pile (block_on first block) (filter (kept_of keeps block) (patches_of g ms)
    ++ filter (kept_of keeps block) (p ∷ []))
    ≡ pile (pile (block_on first block) (filter (kept_of keeps block) (patches_of g ms)))
    (filter (kept_of keeps block) (p ∷ [])) = fold-append lay (block_on first block)
    (filter (kept_of keeps block) (patches_of g ms)) (filter (kept_of keeps block) (p ∷ [])) in
    let on : pile (pile (block_on first block) (filter (kept_of keeps block) (patches_of g ms)))
    (filter (kept_of keeps block) (p ∷ []))
    ≡ pile (block_on (those_laid keeps g first ms) block) (filter (kept_of keeps block) (p ∷ [])) =
    ap (λ b. pile b (filter (kept_of keeps block) (p ∷ []))) before in
    split ∙ parted ∙ on ∙ last_kept keeps g first block there made ms long

-- the disk of a set is the first blocks with the kept patches laid on
pub disk_is : (run : Execution) (g : Geometry) (ms : List Made) (set : Entry → Bool)
    → map (λ e. e.patch) (entries_of run) ≡ patches_of g ms → AreFrom 0 (entries_of run)
    → disk_of run set ≡ those_laid (in_set (entries_of run) set) g run.first ms
disk_is run g ms set patches numbered =
    let keeps = in_set (entries_of run) set in
    let n = length run.first in
    let long : length (disk_of run set) ≡ length run.first =
    length-map (range_with_len 0 (length run.first)) (λ b. pile_of (history_of run b) set)
    ∙ length-range_with_len 0 (length run.first) in
    same_lists _ _ (long ∙ sym (length-those_laid (in_set (entries_of run) set) g run.first ms)) (λ k d h.
    let within : k < length run.first = omega (arith, long) in
    get_or-map-range_with_len (λ b. pile_of (history_of run b) set) 0 (length run.first) k k d within (omega arith)
    ∙ ap (λ es. pile (block_on run.first k) (map (λ e. e.patch) es))
    (filter-filter set (λ e. e.patch.block == k) (entries_of run)
    ∙ filter-same_In (λ e. e.patch.block == k && set e) (λ e. kept_of (in_set (entries_of run) set) k e.patch)
    (entries_of run)
    (λ e i. ap (λ t. e.patch.block == k && t) (sym (in_set_is 0 (entries_of run) set numbered e i))))
    ∙ ap (pile (block_on run.first k)) (map-filter (kept_of (in_set (entries_of run) set) k) (entries_of run)
    ∙ ap (filter (kept_of (in_set (entries_of run) set) k)) patches)
    ∙ pile_kept (in_set (entries_of run) set) g run.first k within ms
    ∙ get_or_default (those_laid (in_set (entries_of run) set) g run.first ms) k [] d
    (omega (arith, length-those_laid (in_set (entries_of run) set) g run.first ms)))

closed_numbers : (es : List Entry) (ps : List Patch) (set : Entry → Bool) → map (λ e. e.patch) es ≡ ps → AreFrom 0 es
    → IsClosed es set → AreClosed (in_set es set) ps
closed_numbers es ps set patches numbered closed = λ p q in_p in_q h d.
    let e = map-In (λ e. e.patch) es p (subst (λ xs. In xs p) (sym patches) in_p) in
    let f = map-In (λ e. e.patch) es q (subst (λ xs. In xs q) (sym patches) in_q) in
    let e_in : set e.0 ≡ true = sym (in_set_is 0 es set numbered e.0 e.1) ∙ ap (λ x. in_set es set x.no) e.2 ∙ h in
    let d' : depends_directly e.0.patch f.0.patch ≡ true =
    subst (λ x. depends_directly x f.0.patch ≡ true) (sym e.2)
    (subst (λ x. depends_directly p x ≡ true) (sym f.2) d) in
    ap (λ x. in_set es set x.no) (sym f.2) ∙ in_set_is 0 es set numbered f.0 f.1
    ∙ closed e.0 f.0 (Contains-from_In es e.0 e.1) (Contains-from_In es f.0 f.1) e_in d'

-- what a closed set leaves
pub closed_disk : Formats → (run : Execution) (first : Ledger) (made : List Made) (set : Entry → Bool)
    → IsOfStore run first made → IsClosed (entries_of run) set
    → Opens (disk_of run set) (ledger_of run set first made) (last_said (in_set (entries_of run) set) first made)
closed_disk formats run first made set store closed =
    let keeps = in_set (entries_of run) set in
    let numbered : AreFrom 0 (entries_of run) = from_numbers 0 (entries_of run) (length made)
    (ap (map (λ p. p.no)) store.patches ∙ numbers_of-patches first.geometry made) in
    let start = opened run.first first (λ b h. store.blocks b [] h) store.read in
    let right = right_of first made store.well_made in
    let held = held_those formats (in_set (entries_of run) set) first made store.well_made
    (closed_numbers (entries_of run) (patches_of first.geometry made) set store.patches numbered closed) in
    let sound = sound_those (in_set (entries_of run) set) first made start.sound right held in
    let shows = shows_those formats (in_set (entries_of run) set) run.first first made start.valid right held
    start.shows in
    let laid = reopened first.geometry (those_laid (in_set (entries_of run) set) first.geometry run.first made)
    (ledger_of run set first made) (shape_those (in_set (entries_of run) set) first made right) shows sound in
    let there : Reopened (disk_of run set) (ledger_of run set first made) =
    subst (λ d. Reopened d (ledger_of run set first made))
    (sym (disk_is run first.geometry made set store.patches numbered)) laid in
    record {
      l = there.is;
      read = there.read;
      same = there.agrees;
      sound = sound;
      map = there.map;
      tells = told_is (ledger_of run set first made) (last_said (in_set (entries_of run) set) first made) sound
          (tells_those (in_set (entries_of run) set) first made start.sound right held);
    }

-- ---- all of them

-- each number is in the set of all
pub in_all : (a : ℕ) (es : List Entry) (n : ℕ) → AreFrom a es → a ≤ n → n < a + length es
    → in_set es (λ e. true) n ≡ true
in_all a [] n h from to = absurd (omega arith)
in_all a (e ∷ es) n h from to = elim (cases_Bool (e.patch.no == n)) [
  | inl u ↦ rw u refl
  | inr u ↦ let first = h.0 in let other : a ≢ n = λ same. absurd (grind (arith, nat_tests)) in
      rw u (in_all (a + 1) es n h.1 (omega arith) (omega arith))
]

-- where all are kept, the ledger is that of all
pub those_are_all : (keeps : ℕ → Bool) (l : Ledger) (ms : List Made) → ((n : ℕ) → n < length ms → keeps n ≡ true)
    → after_those keeps l ms ≡ after_all l ms
those_are_all keeps l [] all = refl
those_are_all keeps l (made ∷ ms) all = rw (all (length ms) (omega arith))
    (ap (λ k. after k made.change) (those_are_all keeps l ms (λ n less. all n (omega arith))))

said_by_all : (keeps : ℕ → Bool) (l : Ledger) (ms : List Made) (key : List ℕ)
    → ((n : ℕ) → n < length ms → keeps n ≡ true) → last_said keeps l ms key ≡ last_said (λ n. true) l ms key
said_by_all keeps l [] key all = refl
said_by_all keeps l (made ∷ ms) key all = rw (all (length ms) (omega arith))
    (ap (cond (speaks_of key (after_all l ms) made.change) (said (after_all l ms) made.change))
    (said_by_all keeps l ms key (λ n less. all n (omega arith))))

-- what all patches leave
pub cached_disk : Formats → (run : Execution) (first : Ledger) (made : List Made) → IsOfStore run first made
    → Opens (cached_blocks run) (after_all first made) (last_said (λ n. true) first made)
cached_disk formats run first made store =
    let left = closed_disk formats run first made (λ e. true) store (λ e f i j h d. refl) in
    let numbered : AreFrom 0 (entries_of run) = from_numbers 0 (entries_of run) (length made)
    (ap (map (λ p. p.no)) store.patches ∙ numbers_of-patches first.geometry made) in
    let count : length (entries_of run) ≡ length made = sym (length-map (entries_of run) (λ e. e.patch))
    ∙ ap length store.patches ∙ length-patches_of first.geometry made in
    let all : (n : ℕ) → n < length made → in_set (entries_of run) (λ e. true) n ≡ true =
    λ n less. in_all 0 (entries_of run) n numbered (omega arith) (omega arith) in
    let same : ledger_of run (λ e. true) first made ≡ after_all first made =
    those_are_all (in_set (entries_of run) (λ e. true)) first made all in
    record {
      l = left.l;
      read = left.read;
      same = subst (SaysSame left.l) same left.same;
      sound = subst IsSound same left.sound;
      map = left.map ∙ ap (λ l. Ok (map_of l)) same;
      tells = λ key. ap (λ l. value_in (map_of l) key) (sym same) ∙ left.tells key
          ∙ said_by_all (in_set (entries_of run) (λ e. true)) first made key all;
    }

-- ---- moves

-- of all changes each kind is kept
pub all_kept : (P : Ledger → Change → Bool) (l : Ledger) (ms : List Made) → AllKept P (λ n. true) l ms
all_kept P l [] = tt
all_kept P l (made ∷ ms) = (λ t. refl, all_kept P l ms)

-- and each holds what it comes after
pub all_held : (l : Ledger) (ms : List Made) → AreHeld (λ n. true) l ms
all_held l [] = tt
all_held l (made ∷ ms) = (
  λ h. all_kept (λ k d. comes_after (after_all l ms) made.change k d
      || same_record made.change d) l ms,
  all_held l ms,
)

-- a change that moves an entry says what was said last
move_repeats : (first : Ledger) (earlier : List Made) → IsSound (after_all first earlier)
    → Tells (after_all first earlier) (last_said (λ n. true) first earlier) → (c : Change)
    → IsRight (after_all first earlier) c
    → Moves (after_all first earlier) c → (key : List ℕ) → speaks_of key (after_all first earlier) c ≡ true
    → said (after_all first earlier) c ≡ last_said (λ n. true) first earlier key
move_repeats first earlier sound tells (Fill slot s) right m key h =
    let n = sound.named slot m.0 m.1 in
    let same : m.0.key ≡ key = right.same_key m.0 m.1 ∙ (bytes_eq-Decides s.key key).0 h in
    m.2 ∙ ap value_read n.frame ∙ sym (tells.has slot m.0 n.content m.1 n.frame)
    ∙ ap (last_said (λ n. true) first earlier) same
move_repeats first earlier sound tells (Clear slot) right m key h = absurd m
move_repeats first earlier sound tells (Data e offset bytes) right m key h = absurd m
move_repeats first earlier sound tells (Point e generation offset) right m key h = absurd m
move_repeats first earlier sound tells Widen right m key h = absurd m

-- the last word is what all say last
word_is : (moves : ℕ → Bool) (first : Ledger) (ms : List Made) → IsSound first → AreRight first ms
    → AreMoves moves first ms → (key : List ℕ) → last_said (λ n. true) first ms key
    ≡ last_said (λ number. not (moves number)) first ms key
word_is moves first [] sound right m key = refl
word_is moves first (made ∷ ms) sound right m key =
    let before = word_is moves first ms sound right.1 m.1 key in
    let same : after_those (λ n. true) first ms ≡ after_all first ms =
    those_are_all (λ n. true) first ms (λ n less. refl) in
    let now : IsSound (after_all first ms) = subst IsSound same
    (sound_those (λ n. true) first ms sound right.1 (all_held first ms)) in
    let tells : Tells (after_all first ms) (last_said (λ n. true) first ms) =
    subst (λ l. Tells l (last_said (λ n. true) first ms)) same
    (tells_those (λ n. true) first ms sound right.1 (all_held first ms)) in
    elim (cases_Bool (speaks_of key (after_all first ms) made.change)) [
      | inl u ↦ elim (cases_Bool (moves (length ms))) [
        | inl v ↦ rw (u, v) (move_repeats first ms now tells made.change right.0 (m.0 v) key u ∙ before)
        | inr v ↦ rw (u, v) refl
      ]
      | inr u ↦ elim (cases_Bool (moves (length ms))) [
        | inl v ↦ rw (u, v) before
        | inr v ↦ rw (u, v) before
      ]
    ]

-- what was said last, of those kept, is the last word that is kept
pub words_kept : (keeps moves : ℕ → Bool) (first : Ledger) (ms : List Made) → IsSound first → AreRight first ms
    → AreMoves moves first ms → (key : List ℕ) → last_said keeps first ms key ≡ last_word_kept keeps moves first ms key
words_kept keeps moves first [] sound right m key = refl
words_kept keeps moves first (made ∷ ms) sound right m key =
    let before = words_kept keeps moves first ms sound right.1 m.1 key in
    let whole = word_is moves first (made ∷ ms) sound right m key in
    elim (cases_Bool (keeps (length ms))) [
      | inl u ↦ elim (cases_Bool (speaks_of key (after_all first ms) made.change)) [
        | inl v ↦ rw (u, v) (rw v at whole)
        | inr v ↦ rw (u, v) before
      ]
      | inr u ↦ rw u before
    ]

-- so the map of a closed set has the words
pub closed_words : Formats → (run : Execution) (first : Ledger) (made : List Made) (set : Entry → Bool)
    (moves : ℕ → Bool) → IsOfStore run first made → IsClosed (entries_of run) set → AreMoves moves first made
    → Opens (disk_of run set) (ledger_of run set first made)
    (last_word_kept (in_set (entries_of run) set) moves first made)
closed_words formats run first made set moves store closed are =
    let start = opened run.first first (λ b h. store.blocks b [] h) store.read in
    let opens = closed_disk formats run first made set store closed in
    record {
      l = opens.l;
      read = opens.read;
      same = opens.same;
      sound = opens.sound;
      map = opens.map;
      tells = λ key. opens.tells key ∙ words_kept (in_set (entries_of run) set) moves first made start.sound
          (right_of first made store.well_made) are key;
    }
