-- Keys that are listed one after another.
use Rattle.std.proofs.Common.{◌≡◌, ℕ, zero, suc, ◌+◌, ◌<◌, ◌≤◌, ◌∙◌, ◌++◌, ◌⊎◌, inl, inr, Bool, true, false, List, [], ◌∷◌, Option, Some, None, length, get_or, refl, sym, ap, subst, arith}
use Rattle.std.specs.Prelude.{not, ◌&&◌, ◌↔◌, flat_map, All, AllPairs, Contains, MatchOption, slice_index_or, if◌then◌else◌}
use Rattle.std.specs.Io.KnownBytes.{Appends}
use Rattle.std.specs.Prelude as list
use Rattle.std.specs.List.{range_with_len}
use Rattle.std.specs.Str.{bytes_eq}
use Rattle.std.proofs.lemmas.Bool.{cases_Bool}
use Rattle.std.proofs.lemmas.List.{append-nil, length-map}
use Rattle.std.proofs.lemmas.List.Elements.{All-contains}
use Rattle.std.proofs.lemmas.List.Quantifiers.{all_pairs_push}
use Rattle.std.proofs.lemmas.Grind.{flat_map-append}
use Rattle.std.proofs.lemmas.Slice.Eq.{bytes_eq-Decides}
use Rattle.std.specs.Prelude.{Result, Ok, Err}
use Rattle.patch_frame.specs.declared.faults.FrameFault.{FrameFault}
use Rattle.patch_frame.specs.Frame.{Content}
use Rattle.patch_frame.specs.Slot.{SlotFields}
use Rattle.patch_frame.specs.Geometry.{slot_count}
use Rattle.patch_recovery.specs.Ledger.{Ledger, map_of, entry_of, entry_read, frame_named, value_in}
use Rattle.patch_recovery.specs.Right.{IsSound}
use Rattle.patch_index.specs.declared.reports.EntryReport.{EntryReport}
use Rattle.patch_index.specs.Reporting.{reported}
use Rattle.patch_index.specs.Keys.{is_key_before, IsNext, NoneFrom}
use Rattle.patch_listing.specs.declared.listing.Wanted.{Wanted}
use Rattle.patch_store.specs.Checking.{of_content}
use Rattle.patch_replay.specs.Growing.{twice, same}
use Rattle.patch_listing.specs.Listing.{begins_with, is_wanted, entry_text, value_text, line_of, text_for, AreListed, WritesLines}
use Rattle.patch_listing.proofs.KeyOrder.{before_itself, before_past, past_both, same_key, not_behind, right_behind}

-- Elements of lists.

abbrev In : {X : Type 0} → List X → X → Type 0
In [] x = ⊥
In (y ∷ ys) x = (y ≡ x) ⊎ In ys x

in_at : {X : Type 0} (xs : List X) (x : X) (k : ℕ) → k < length xs → slice_index_or xs k x ≡ x → In xs x
in_at [] x k low is = absurd (omega arith)
in_at (y ∷ ys) x zero low is = inl is
in_at (y ∷ ys) x (suc k) low is = inr (in_at ys x k (omega arith) is)

in_so : {X : Type 0} (xs : List X) (x : X) → Contains xs x → In xs x
in_so xs x c = in_at xs x c.0 c.1 c.2

contains_so : {X : Type 0} (xs : List X) (x : X) → In xs x → Contains xs x
contains_so [] x i = absurd i
contains_so (y ∷ ys) x (inl same) = (0, omega arith, same)
contains_so (y ∷ ys) x (inr later) = let c = contains_so ys x later in (suc c.0, omega (arith, c.1), c.2)

in_append : {X : Type 0} (xs ys : List X) (x : X) → In (xs ++ ys) x → In xs x ⊎ In ys x
in_append [] ys x i = inr i
in_append (z ∷ zs) ys x (inl same) = inl (inl same)
in_append (z ∷ zs) ys x (inr later) = elim (in_append zs ys x later) [ inl i ↦ inl (inr i) | inr i ↦ inr i ]

in_first : {X : Type 0} (xs ys : List X) (x : X) → In xs x → In (xs ++ ys) x
in_first [] ys x i = absurd i
in_first (z ∷ zs) ys x (inl same) = inl same
in_first (z ∷ zs) ys x (inr later) = inr (in_first zs ys x later)

in_second : {X : Type 0} (xs ys : List X) (x : X) → In ys x → In (xs ++ ys) x
in_second [] ys x i = i
in_second (z ∷ zs) ys x i = inr (in_second zs ys x i)

in_flat : {X Y : Type 0} (f : X → List Y) (xs : List X) (y : Y) → In (flat_map f xs) y → (x : X) × In (f x) y
in_flat f [] y i = absurd i
in_flat f (x ∷ xs) y i = elim (in_append (f x) (flat_map f xs) y i) [ inl here ↦ (x, here) | inr later ↦ in_flat f xs y later ]

in_map : {X Y : Type 0} (f : X → Y) (xs : List X) (y : Y) → In (list.map f xs) y → (x : X) × In xs x × (f x ≡ y)
in_map f [] y i = absurd i
in_map f (x ∷ xs) y (inl same) = (x, inl refl, same)
in_map f (x ∷ xs) y (inr later) = let i = in_map f xs y later in (i.0, inr i.1, i.2)

map_in : {X Y : Type 0} (f : X → Y) (xs : List X) (x : X) → In xs x → In (list.map f xs) (f x)
map_in f [] x i = absurd i
map_in f (z ∷ zs) x (inl same) = inl (ap f same)
map_in f (z ∷ zs) x (inr later) = inr (map_in f zs x later)

-- Maps: no two have one key.

abbrev pub IsSingle : List Content → Type 0
IsSingle map = (one other : Content) → Contains map one → Contains map other → one.key ≡ other.key → one ≡ other

record HasFrame (l : Ledger) (c : Content) : Type 0 where
  slot : ℕ
  fields : SlotFields
  used : l.slot slot ≡ Some fields
  frame : frame_named l fields ≡ Ok c

read_so : (r : Result Content FrameFault) (c : Content) → In (entry_read r) c → r ≡ Ok c
read_so (Ok d) c (inl same) = ap (λ x. Ok x) same
read_so (Ok d) c (inr later) = absurd later
read_so (Err fault) c i = absurd i

frame_so : (l : Ledger) (slot : ℕ) (says : Option SlotFields) (c : Content) → l.slot slot ≡ says → In (entry_of l says) c → HasFrame l c
frame_so l slot None c is i = absurd i
frame_so l slot (Some fields) c is i = record { slot = slot; fields = fields; used = is; frame = read_so (frame_named l fields) c i }

frame_of : (l : Ledger) (c : Content) → Contains (map_of l) c → HasFrame l c
frame_of l c stands =
    let at = in_flat (λ s. entry_of l (l.slot s)) (range_with_len 0 (slot_count l.geometry)) c (in_so (map_of l) c stands) in
    frame_so l at.0 (l.slot at.0) c refl at.1

-- its key is that of the slot
key_so : (l : Ledger) → IsSound l → (c : Content) (h : HasFrame l c) → c.key ≡ h.fields.key
key_so l sound c h =
    let named = sound.named h.slot h.fields h.used in
    let frame = h.frame in
    let there = named.frame in
    let same : c ≡ named.content = cc in
    ap (λ d. d.key) same ∙ named.key

slots_so : (l : Ledger) (slot other : ℕ) (s t : SlotFields) (one two : Content) → slot ≡ other → l.slot slot ≡ Some s → l.slot other ≡ Some t
    → frame_named l s ≡ Ok one → frame_named l t ≡ Ok two → one ≡ two
slots_so l slot other s t one two same here there frame later =
    let says : l.slot slot ≡ l.slot other = ap l.slot same in
    let fields : s ≡ t = cc in
    let frames : frame_named l s ≡ frame_named l t = ap (frame_named l) fields in
    cc

pub single_so : (l : Ledger) → IsSound l → IsSingle (map_of l)
single_so l sound one other here there same =
    let h = frame_of l one here in
    let k = frame_of l other there in
    let keys : h.fields.key ≡ k.fields.key = sym (key_so l sound one h) ∙ same ∙ key_so l sound other k in
    slots_so l h.slot k.slot h.fields k.fields one other (sound.single h.slot k.slot h.fields k.fields h.used k.used keys) h.used k.used h.frame k.frame

value_at : (c : Content) (cs : List Content) → ((d : Content) → In cs d → d.key ≡ c.key → d ≡ c) → In cs c → value_in cs c.key ≡ Some c.value
value_at c [] only i = absurd i
value_at c (d ∷ ds) only i = elim (cases_Bool (bytes_eq d.key c.key)) [
  | inl same ↦ rw same (ap (λ x. Some x.value) (only d (inl refl) ((bytes_eq-Decides d.key c.key).0 same)))
  | inr other ↦ rw other (value_at c ds (λ e there. only e (inr there)) (elim i [
    | inl here ↦ absurd (let e : bytes_eq d.key c.key ≡ true = (bytes_eq-Decides d.key c.key).1 (ap (λ x. x.key) here) in cc)
    | inr later ↦ later
  ]))
]

-- so each has its value by its key
pub value_so : (map : List Content) → IsSingle map → (c : Content) → Contains map c → value_in map c.key ≡ Some c.value
value_so map single c there =
    value_at c map (λ d i same. single d c (contains_so map d i) there same) (in_so map c there)

pub value_told : (l : Ledger) (key : List ℕ) (c : Content) → IsSound l → Contains (map_of l) c → c.key ≡ key → value_in (map_of l) key ≡ Some c.value
value_told l key c sound there is = subst (λ k. value_in (map_of l) k ≡ Some c.value) is (value_so (map_of l) (single_so l sound) c there)

-- On the way.

-- just those were listed that come before this one
pub record HasCome (w : Wanted) (map : List Content) (from : List ℕ) (listed : List Content) : Type 0 where
  pub past : is_key_before from w.from.now ≡ false
  pub rising : AllPairs (λ one other. is_key_before one.key other.key ≡ true) listed
  pub just : (c : Content) → Contains listed c ↔ (Contains map c × (is_wanted w c.key ≡ true) × (is_key_before c.key from ≡ true))

wanted_past : (w : Wanted) (key : List ℕ) → is_wanted w key ≡ true → is_key_before key w.from.now ≡ false
wanted_past w key wanted = elim (cases_Bool (is_key_before key w.from.now)) [
  | inl before ↦ absurd (let e : is_wanted w key ≡ false = rw before refl in cc)
  | inr past ↦ past
]

wanted_begins : (w : Wanted) (key : List ℕ) → is_wanted w key ≡ true → begins_with w.prefix.now key ≡ true
wanted_begins w key wanted = rw (wanted_past w key wanted) at wanted

wanted_so : (w : Wanted) (key : List ℕ) → is_key_before key w.from.now ≡ false → begins_with w.prefix.now key ≡ true → is_wanted w key ≡ true
wanted_so w key past begins = rw past begins

-- at first there are none
pub none_yet : (w : Wanted) (map : List Content) → HasCome w map w.from.now []
none_yet w map = record {
  past = before_itself w.from.now;
  rising = λ i j d less low. absurd (omega arith);
  just = λ c. (
    λ here. absurd (in_so [] c here),
    λ (stands, wanted, before). absurd (let past = wanted_past w c.key wanted in cc),
  );
}

-- at the end there are no others
pub all_come : (w : Wanted) (map : List Content) (from : List ℕ) (listed : List Content) → HasCome w map from listed
    → ((c : Content) → Contains map c → is_key_before c.key from ≡ true) → AreListed w map listed
all_come w map from listed come none = record {
  rising = come.rising;
  just = λ c. (
    λ here. let is = (come.just c).0 here in (is.0, is.1),
    λ (stands, wanted). (come.just c).1 (stands, wanted, none c stands),
  );
}

-- The line of a key.

pub line_so : (values : Bool) (c : Content) (it : List ℕ × ℕ) (start text line all : List ℕ) → of_content c ≡ it → start ≡ entry_text it
    → text ≡ (if values then value_text c.value else []) → line ≡ start ++ text → all ≡ line ++ 10 ∷ [] → all ≡ line_of values c
line_so values c it start text line all is start_is text_is line_is all_is =
    all_is ∙ ap (λ (x : List ℕ). x ++ 10 ∷ [])
    (line_is ∙ ap (λ (x : List ℕ). x ++ text) (start_is ∙ ap entry_text (sym is)) ∙ ap (λ (x : List ℕ). entry_text (of_content c) ++ x) text_is)

pub value_wanted : (values : Bool) (value bytes : List ℕ) → values ≡ true → bytes ≡ value → value_text bytes ≡ (if values then value_text value else [])
value_wanted values value bytes wanted is = rw (wanted, is) refl

pub none_wanted : (values : Bool) (value : List ℕ) → values ≡ false → [] ≡ (if values then value_text value else [])
none_wanted values value none = rw none refl

-- what is written of it, by how it begins
pub text_none : (w : Wanted) (c : Content) (key : List ℕ) → c.key ≡ key → begins_with w.prefix.now key ≡ false → text_for w c ≡ []
text_none w c key is other = let e : begins_with w.prefix.now c.key ≡ false = subst (λ k. begins_with w.prefix.now k ≡ false) (sym is) other in rw e refl

pub text_some : (w : Wanted) (c : Content) (key : List ℕ) → c.key ≡ key → begins_with w.prefix.now key ≡ true → text_for w c ≡ line_of w.values c
text_some w c key is begins = let e : begins_with w.prefix.now c.key ≡ true = subst (λ k. begins_with w.prefix.now k ≡ true) (sym is) begins in rw e refl

-- One key more.

at_any : {X : Type 0} (xs : List X) (k : ℕ) (d e : X) → k < length xs → get_or xs k d ≡ get_or xs k e
at_any [] k d e low = absurd (omega arith)
at_any (x ∷ xs) zero d e low = refl
at_any (x ∷ xs) (suc k) d e low = at_any xs k d e (omega arith)

true_of : (b : Bool) → b ≡ false → not b ≡ true
true_of true not_so = absurd (cc)
true_of false not_so = refl

false_of : (b : Bool) → not b ≡ true → b ≡ false
false_of true so = absurd (cc)
false_of false so = refl

ends_behind : (key : List ℕ) → is_key_before (key ++ 0 ∷ []) key ≡ false
ends_behind key = not_behind key (key ++ 0 ∷ []) (right_behind key key ∙ true_of (is_key_before key key) (before_itself key))

module _ (w : Wanted) (map : List Content) (from : List ℕ) (listed : List Content) (c : Content) (single : IsSingle map) (come : HasCome w map from listed)
    (stands : Contains map c) (reached : is_key_before c.key from ≡ false)
    (least : (d : Content) → Contains map d → is_key_before d.key from ≡ false → is_key_before d.key c.key ≡ false) where
  earlier : (d : Content) → Contains listed d → is_key_before d.key c.key ≡ true
  earlier d here = before_past d.key from c.key ((come.just d).0 here).2 reached

  still_before : (d : Content) → Contains listed d → is_key_before d.key (c.key ++ 0 ∷ []) ≡ true
  still_before d here = right_behind c.key d.key ∙ true_of (is_key_before c.key d.key) (not_behind d.key c.key (earlier d here))

  this_before : is_key_before c.key (c.key ++ 0 ∷ []) ≡ true
  this_before = right_behind c.key c.key ∙ true_of (is_key_before c.key c.key) (before_itself c.key)

  this_past : is_key_before c.key w.from.now ≡ false
  this_past = past_both c.key from w.from.now reached come.past

  later_past : is_key_before (c.key ++ 0 ∷ []) w.from.now ≡ false
  later_past = past_both (c.key ++ 0 ∷ []) c.key w.from.now (ends_behind c.key) this_past

  listed_or_this : (d : Content) → Contains map d → is_wanted w d.key ≡ true → is_key_before d.key (c.key ++ 0 ∷ []) ≡ true → Contains listed d ⊎ (d ≡ c)
  listed_or_this d there wanted before = elim (cases_Bool (is_key_before d.key from)) [
    | inl below ↦ inl ((come.just d).1 (there, wanted, below))
    | inr past ↦
        let not_above : is_key_before c.key d.key ≡ false = false_of (is_key_before c.key d.key) (sym (right_behind c.key d.key) ∙ before) in
        inr (single d c there stands (same_key d.key c.key (least d there past) not_above))
  ]

  pub next_come : (begins : Bool) → begins_with w.prefix.now c.key ≡ begins
      → HasCome w map (c.key ++ 0 ∷ []) (listed ++ (if begins then c ∷ [] else []))
  next_come true begins = record {
    past = later_past;
    rising = all_pairs_push (λ one other. is_key_before one.key other.key ≡ true) listed c come.rising
        (λ k d low. earlier (get_or listed k d) (k, low, at_any listed k (get_or listed k d) d low));
    just = λ d. (
      λ here. elim (in_append listed (c ∷ []) d (in_so (listed ++ c ∷ []) d here)) [
        | inl first ↦ let is = (come.just d).0 (contains_so listed d first) in (is.0, is.1, still_before d (contains_so listed d first))
        | inr last ↦ elim last [
          | inl same ↦ subst (λ x. Contains map x × (is_wanted w x.key ≡ true) × (is_key_before x.key (c.key ++ 0 ∷ []) ≡ true)) same
              (stands, wanted_so w c.key this_past begins, this_before)
          | inr none ↦ absurd none
        ]
      ],
      λ (there, wanted, before). elim (listed_or_this d there wanted before) [
        | inl first ↦ contains_so (listed ++ c ∷ []) d (in_first listed (c ∷ []) d (in_so listed d first))
        | inr same ↦ contains_so (listed ++ c ∷ []) d (in_second listed (c ∷ []) d (inl (sym same)))
      ],
    );
  }
  next_come false begins = subst (HasCome w map (c.key ++ 0 ∷ [])) (sym (append-nil listed)) (record {
    past = later_past;
    rising = come.rising;
    just = λ d. (
      λ here. let is = (come.just d).0 here in (is.0, is.1, still_before d here),
      λ (there, wanted, before). elim (listed_or_this d there wanted before) [
        | inl first ↦ first
        | inr same ↦ absurd (let e : begins_with w.prefix.now c.key ≡ true = subst (λ x. begins_with w.prefix.now x.key ≡ true) same (wanted_begins w d.key wanted) in cc)
      ],
    );
  })

-- How many keys are left.

abbrev pub counted : {X : Type 0} → (X → Bool) → List X → ℕ
counted p [] = 0
counted p (x ∷ xs) = (if p x then 1 else 0) + counted p xs

counted_few : {X : Type 0} (p : X → Bool) (xs : List X) → counted p xs ≤ length xs
counted_few p [] = omega arith
counted_few p (x ∷ xs) = elim (cases_Bool (p x)) [
  | inl holds ↦ rw holds (omega (arith, counted_few p xs))
  | inr fails ↦ rw fails (omega (arith, counted_few p xs))
]

abbrev pub left : List ℕ → List Content → ℕ
left from map = counted (λ c. not (is_key_before c.key from)) map

count_all : {X : Type 0} (p q : X → Bool) (xs : List X) → ((x : X) → p x ≡ true → q x ≡ true) → counted p xs ≤ counted q xs
count_all p q [] more = omega arith
count_all p q (x ∷ xs) more = elim (cases_Bool (p x)) [
  | inl holds ↦ rw (holds, more x holds) (omega (arith, count_all p q xs more))
  | inr fails ↦ rw fails (omega (arith, count_all p q xs more))
]

count_less : {X : Type 0} (p q : X → Bool) (xs : List X) → ((x : X) → p x ≡ true → q x ≡ true) → (c : X) → In xs c → p c ≡ false → q c ≡ true
    → counted p xs + 1 ≤ counted q xs
count_less p q [] more c i fails holds = absurd i
count_less p q (x ∷ xs) more c (inl same) fails holds =
    let none : p x ≡ false = ap p same ∙ fails in
    let one : q x ≡ true = ap q same ∙ holds in
    rw (none, one) (omega (arith, count_all p q xs more))
count_less p q (x ∷ xs) more c (inr later) fails holds = elim (cases_Bool (p x)) [
  | inl both ↦ rw (both, more x both) (omega (arith, count_less p q xs more c later fails holds))
  | inr none ↦ rw none (omega (arith, count_less p q xs more c later fails holds))
]

count_none : {X : Type 0} (p : X → Bool) (xs : List X) → counted p xs ≡ 0 → (c : X) → In xs c → p c ≡ false
count_none p [] none c i = absurd i
count_none p (x ∷ xs) none c (inl same) = elim (cases_Bool (p x)) [
  | inl holds ↦ absurd (let e : 1 + counted p xs ≡ 0 = rw holds at none in omega arith)
  | inr fails ↦ sym (ap p same) ∙ fails
]
count_none p (x ∷ xs) none c (inr later) = elim (cases_Bool (p x)) [
  | inl holds ↦ absurd (let e : 1 + counted p xs ≡ 0 = rw holds at none in omega arith)
  | inr fails ↦ let e : 0 + counted p xs ≡ 0 = rw fails at none in count_none p xs (omega arith) c later
]

-- where none is left each comes before
pub none_left : (map : List Content) (from : List ℕ) → left from map ≡ 0 → (c : Content) → Contains map c → is_key_before c.key from ≡ true
none_left map from none c there = elim (cases_Bool (is_key_before c.key from)) [
  | inl before ↦ before
  | inr past ↦
      absurd (let e = count_none (λ d. not (is_key_before d.key from)) map none c (in_so map c there) in let f = true_of (is_key_before c.key from) past in cc)
]

past_so : (key from other : List ℕ) → is_key_before key from ≡ false → is_key_before other (key ++ 0 ∷ []) ≡ false → is_key_before other from ≡ false
past_so key from other reached past = past_both other (key ++ 0 ∷ []) from past (past_both (key ++ 0 ∷ []) key from (ends_behind key) reached)

few_so : (map : List Content) (from : List ℕ) (seen : ℕ) (c : Content) → Contains map c → is_key_before c.key from ≡ false
    → left from map + seen ≤ length map → left (c.key ++ 0 ∷ []) map + (seen + 1) ≤ length map
few_so map from seen c there reached few =
    let after = c.key ++ 0 ∷ [] in
    let fewer = count_less (λ d. not (is_key_before d.key after)) (λ d. not (is_key_before d.key from)) map
    (λ d past. true_of (is_key_before d.key from) (past_so c.key from d.key reached (false_of (is_key_before d.key after) past)))
    c (in_so map c there)
    (ap not (right_behind c.key c.key ∙ true_of (is_key_before c.key c.key) (before_itself c.key)))
    (true_of (is_key_before c.key from) reached) in
    omega (arith, fewer)

-- What was written so far: the lines of just those that come before this one. So many keys were seen, and so many at most are left.
pub record HasWritten (w : Wanted) (map : List Content) (from : List ℕ) (seen : ℕ) (old new : Option (List ℕ)) : Type 0 where
  pub listed : List Content
  pub come : HasCome w map from listed
  pub few : left from map + seen ≤ length map
  pub written : Appends old new (flat_map (line_of w.values) listed)

pub nothing_yet : (w : Wanted) (map : List Content) (old : Option (List ℕ)) → HasWritten w map w.from.now 0 old old
nothing_yet w map old = record {
  listed = [];
  come = none_yet w map;
  few = omega (arith, counted_few (λ c. not (is_key_before c.key w.from.now)) map);
  written = same old;
}

lines_push : (w : Wanted) (listed : List Content) (c : Content) (begins : Bool)
    → flat_map (line_of w.values) (listed ++ (if begins then c ∷ [] else [])) ≡ flat_map (line_of w.values) listed ++ (if begins then line_of w.values c else [])
lines_push w listed c true = flat_map-append (line_of w.values) listed (c ∷ []) ∙ ap (λ x. flat_map (line_of w.values) listed ++ x) (append-nil (line_of w.values c))
lines_push w listed c false = flat_map-append (line_of w.values) listed []

least_so : (map : List Content) (from : List ℕ) (it : List ℕ × ℕ) → IsNext (list.map of_content map) from it → (d : Content) → Contains map d
    → is_key_before d.key from ≡ false → is_key_before d.key it.0 ≡ false
least_so map from it next d there =
    All-contains (λ other. is_key_before other.0 from ≡ false → is_key_before other.0 it.0 ≡ false) (list.map of_content map) (of_content d) next.least
    (contains_so (list.map of_content map) (of_content d) (map_in of_content map d (in_so map d there)))

-- the key that comes next, with its value
pub record IsNextContent (map : List Content) (from : List ℕ) (it : List ℕ × ℕ) : Type 0 where
  pub content : Content
  pub stands : Contains map content
  pub is : of_content content ≡ it

pub content_so : (map : List Content) (from : List ℕ) (it : List ℕ × ℕ) → IsNext (list.map of_content map) from it → IsNextContent map from it
content_so map from it next =
    let there = in_map of_content map it (in_so (list.map of_content map) it next.stands) in
    record { content = there.0; stands = contains_so map there.0 there.1; is = there.2 }

-- the next line was written, if the key begins so
pub one_more : (w : Wanted) (map : List Content) (from : List ℕ) (seen : ℕ) (it : List ℕ × ℕ) (old mid new : Option (List ℕ)) → IsSingle map
    → HasWritten w map from seen old mid → IsNext (list.map of_content map) from it
    → ((c : Content) → Contains map c → of_content c ≡ it → Appends mid new (text_for w c)) → HasWritten w map (it.0 ++ 0 ∷ []) (seen + 1) old new
one_more w map from seen it old mid new single before next appends =
    let there = content_so map from it next in
    let c = there.content in
    let key : c.key ≡ it.0 = ap (λ x. x.0) there.is in
    let reached : is_key_before c.key from ≡ false = subst (λ k. is_key_before k from ≡ false) (sym key) next.reached in
    let least : (d : Content) → Contains map d → is_key_before d.key from ≡ false → is_key_before d.key c.key ≡ false =
    λ d stands past. subst (λ k. is_key_before d.key k ≡ false) (sym key) (least_so map from it next d stands past) in
    let begins = begins_with w.prefix.now c.key in
    subst (λ k. HasWritten w map (k ++ 0 ∷ []) (seen + 1) old new) key (record {
      listed = before.listed ++ (if begins then c ∷ [] else []);
      come = next_come w map from before.listed c single before.come there.stands reached least begins refl;
      few = few_so map from seen c there.stands reached before.few;
      written = subst (Appends old new) (sym (lines_push w before.listed c begins))
          (twice old mid new (flat_map (line_of w.values) before.listed) (text_for w c) before.written (appends c there.stands there.is));
    })

-- The last of them.

pub none_next : (said : List (List ℕ × ℕ)) (from : List ℕ) (found : Option EntryReport) → found ≡ None
    → MatchOption found (NoneFrom said from) (λ it. IsNext said from (reported it)) → NoneFrom said from
none_next said from found none told = subst (λ x. MatchOption x (NoneFrom said from) (λ it. IsNext said from (reported it))) none told

-- no key is left
pub ended_none : (w : Wanted) (map : List Content) (from : List ℕ) (seen : ℕ) (old new : Option (List ℕ)) → HasWritten w map from seen old new
    → NoneFrom (list.map of_content map) from → WritesLines w map old new
ended_none w map from seen old new has none = record {
  listed = has.listed;
  are = all_come w map from has.listed has.come
      (λ c there. All-contains (λ other. is_key_before other.0 from ≡ true) (list.map of_content map) (of_content c) none
      (contains_so (list.map of_content map) (of_content c) (map_in of_content map c (in_so map c there))));
  written = has.written;
}

-- all were seen
pub ended_all : (w : Wanted) (map : List Content) (from : List ℕ) (seen : ℕ) (old new : Option (List ℕ)) → HasWritten w map from seen old new
    → length (list.map of_content map) ≤ seen → WritesLines w map old new
ended_all w map from seen old new has all =
    let few = has.few in
    let whole : length map ≤ seen = simp length-map at all in
    let none : left from map ≡ 0 = omega arith in
    record { listed = has.listed; are = all_come w map from has.listed has.come (none_left map from none); written = has.written }
