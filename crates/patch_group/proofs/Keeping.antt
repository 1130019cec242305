-- What calls do to the groups that are kept.
use Rattle.std.proofs.Common.{◌≡◌, ◌≢◌, ℕ, zero, suc, ◌+◌, ◌<◌, ◌≤◌, ◌∙◌, true, false, List, [], ◌∷◌, length, map, refl, sym, ap, subst, arith, get_or, set, length-set, get_or-set_other, Some, None, ◌++◌}
use Rattle.std.specs.Prelude.{nat_le, if◌then◌else◌}
use Rattle.std.proofs.lemmas.Bool.{le-leb, lt-leb}
use Rattle.patch_model.specs.declared.refusals.RefusalKind.TheVariants as kind
use Rattle.patch_model.specs.Refusing.{bare}
use Rattle.patch_cache.specs.Refusals.{IsCause}
use Rattle.std.proofs.lemmas.List.{map-set, map-append, length-map}
use Rattle.patch_model.specs.Runs.{numbers_in}
use Rattle.patch_model.specs.declared.runs.Run.{Run}
use Rattle.patch_plans.specs.Rising.{rising}
use Rattle.patch_plans.specs.Groups.{Group, Groups, fresh, before, is_open, is_engaged, is_engaged_by, why_not_disengaged, why_not_closed, why_not_begun, begun, engaged, closed, ordered}
use Rattle.patch_group.specs.declared.records.Record.{Record}
use Rattle.patch_group.specs.Records.{group_of, groups_of}

pub get_or-map : {X Y : Type 0} → (f : X → Y) (xs : List X) (i : ℕ) (d : X) (e : Y) → i < length xs → get_or (map f xs) i e ≡ f (get_or xs i d)
get_or-map f [] i d e l = absurd (omega (arith, l))
get_or-map f (x ∷ xs) zero d e l = refl
get_or-map f (x ∷ xs) (suc i) d e l = get_or-map f xs i d e (omega (arith, l))

-- a group that is changed where it stands
pub changed_at : {A : Type 0} → (records : List (Record A)) (at : ℕ) (now was : Record A) (f : Group → Group) → at < length records → was ≡ get_or records at was
    → group_of now ≡ f (group_of was) → map group_of (set records at now) ≡ set (map group_of records) at (f (get_or (map group_of records) at fresh))
changed_at records at now was f l is e =
    let there : get_or (map group_of records) at fresh ≡ group_of was = get_or-map group_of records at was fresh l ∙ sym (ap group_of is) in
    map-set group_of records at now ∙ ap (λ g. set (map group_of records) at g) (e ∙ ap f (sym there))

-- what a call leaves of the groups that are kept

pub one_engaged : {A : Type 0} → (records : List (Record A)) (es items : List (ℕ × ℕ)) (gs : Groups) (writer group at : ℕ) (now was : Record A) → groups_of records es ≡ gs → at ≡ group
    → at < length records → was ≡ get_or records at was → group_of now ≡ record (group_of was) { started = true } → items ≡ es ++ (writer, group) ∷ []
    → groups_of (set records at now) items ≡ engaged gs writer group
one_engaged {A} records es items gs writer group at now was seen named known is change more =
    let begun_one : Group → Group = λ x. record x { started = true } in
    ap (λ rs. let s : Groups = record { groups = rs; engaged = items } in s) (changed_at records at now was begun_one known is change)
    ∙ ap (λ xs. let s : Groups = record { groups = (engaged (groups_of records es) writer at).groups; engaged = xs } in s) more
    ∙ ap (λ k. let s : Groups = record { groups = (engaged (groups_of records es) writer k).groups; engaged = es ++ (writer, group) ∷ [] } in s) named
    ∙ ap (λ s. engaged s writer group) seen

pub one_closed : {A : Type 0} → (records : List (Record A)) (es : List (ℕ × ℕ)) (gs : Groups) (group at : ℕ) (now was : Record A) → groups_of records es ≡ gs → at ≡ group
    → at < length records → was ≡ get_or records at was → group_of now ≡ record (group_of was) { closed = true } → groups_of (set records at now) es ≡ closed gs group
one_closed {A} records es gs group at now was seen named known is change =
    let ended : Group → Group = λ x. record x { closed = true } in
    ap (λ rs. let s : Groups = record { groups = rs; engaged = es } in s) (changed_at records at now was ended known is change)
    ∙ ap (λ k. closed (groups_of records es) k) named ∙ ap (λ s. closed s group) seen

-- the two groups of an order, the earlier one changed behind the later
pub two_ordered : {A : Type 0} → (records : List (Record A)) (es : List (ℕ × ℕ)) (gs : Groups) (group on at at_on : ℕ) (after later last earlier : Record A) (behind : List ℕ)
    → groups_of records es ≡ gs → at ≡ group → at_on ≡ on → at < length records → at_on < length records → at_on ≢ at
    → later ≡ get_or records at later → group_of after ≡ record (group_of later) { before = behind } → behind ≡ rising (before gs group ++ on ∷ before gs on)
    → earlier ≡ get_or (set records at after) at_on earlier → group_of last ≡ record (group_of earlier) { sealed = true }
    → groups_of (set (set records at after) at_on last) es ≡ ordered gs group on
two_ordered {A} records es gs group on at at_on after later last earlier behind seen named named_on known known_on two is change united is_on change_on =
    let old = groups_of records es in
    let all : Groups → ℕ → ℕ → List ℕ = λ s k j. rising (before s k ++ j ∷ before s j) in
    let same : behind ≡ all old at at_on = united ∙ sym (ap (λ k. all old k at_on) named ∙ ap (λ j. all old group j) named_on ∙ ap (λ s. all s group on) seen) in
    let put_behind : Group → Group = λ x. record x { before = all old at at_on } in
    let sealed : Group → Group = λ x. record x { sealed = true } in
    let first = changed_at records at after later put_behind known is (change ∙ ap (λ b. let x : Group = record (group_of later) { before = b } in x) same) in
    let second = changed_at (set records at after) at_on last earlier sealed (subst (λ n. at_on < n) (sym (length-set records at after)) known_on) is_on change_on in
    let there = put_behind (get_or old.groups at fresh) in
    let both : map group_of (set (set records at after) at_on last) ≡ (ordered old at at_on).groups =
    second ∙ ap (λ rs. set rs at_on (sealed (get_or rs at_on fresh))) first ∙ ap (λ x. set (set old.groups at there) at_on (sealed x)) (get_or-set_other old.groups at at_on there fresh two) in
    ap (λ rs. let s : Groups = record { groups = rs; engaged = es } in s) both
    ∙ ap (λ k. ordered old k at_on) named ∙ ap (λ j. ordered old group j) named_on ∙ ap (λ s. ordered s group on) seen

pub may_disengage : (gs : Groups) (writer group : ℕ) → is_open gs group ≡ true → is_engaged_by gs writer group ≡ true → why_not_disengaged gs writer group ≡ None
may_disengage gs writer group a b = rw (a, b) refl

pub may_close : (gs : Groups) (group : ℕ) → is_open gs group ≡ true → is_engaged gs group ≡ false → why_not_closed gs group ≡ None
may_close gs group a b = rw (a, b) refl

-- a group that is known is kept
pub within : {A : Type 0} → (records : List (Record A)) (now : Groups) (group at : ℕ) → map group_of records ≡ now.groups → at ≡ group → group < length now.groups → at < length records
within {A} records now group at seen named l =
    let long : length now.groups ≡ length records = ap length (sym seen) ∙ length-map records group_of in
    omega (arith, long, named, l)

-- groups that have more room are as many as before
pub roomier : {A : Type 0} → (old new : List (Record A)) → map group_of new ≡ map group_of old → length old ≤ 1024 → length new ≤ 1024
roomier old new same few =
    let long : length new ≡ length old = sym (length-map new group_of) ∙ ap length same ∙ length-map old group_of in
    subst (λ n. n ≤ 1024) (sym long) few

pub has_room : (long room : ℕ) → long + 1 ≤ room → long < room
has_room long room fits = omega arith

-- Groups that begin.

pub made_all : {A : Type 0} → (records : List (Record A)) (now : Groups) (made long : ℕ) → made ≡ long → long ≡ length records → map group_of records ≡ now.groups → made ≡ length now.groups
made_all records now made long is counted seen = is ∙ counted ∙ sym (length-map records group_of) ∙ ap length seen

pub crowded : (gs : Groups) (made : ℕ) → made ≡ length gs.groups → 1024 ≤ made → IsCause (why_not_begun gs) (bare kind.TooManyGroups)
crowded gs made all many =
    let full : nat_le 1024 (length gs.groups) ≡ true = le-leb _ _ (subst (λ n. 1024 ≤ n) all many) in
    subst (λ b. IsCause (if b then Some (bare kind.TooManyGroups) else None) (bare kind.TooManyGroups)) (sym full) refl

pub may_begin : (gs : Groups) (made : ℕ) → made ≡ length gs.groups → made < 1024 → None ≡ why_not_begun gs
may_begin gs made all few =
    let free : nat_le 1024 (length gs.groups) ≡ false = lt-leb _ _ (subst (λ n. n < 1024) all few) in
    ap (λ b. if b then Some (bare kind.TooManyGroups) else None) (sym free)

-- a record that was begun
pub is_fresh : (ns : List ℕ) (rs : List Run) → ns ≡ [] → rs ≡ [] → (let x : Group = record { started = false; sealed = false; closed = false; before = ns; patches = numbers_in rs } in x) ≡ fresh
is_fresh ns rs none no_runs =
    let with : List ℕ → List Run → Group = λ ns rs. record { started = false; sealed = false; closed = false; before = ns; patches = numbers_in rs } in
    ap (λ xs. with xs rs) none ∙ ap (with []) no_runs

pub one_begun : {A : Type 0} → (old mid new : List (Record A)) (es : List (ℕ × ℕ)) (gs : Groups) (r : Record A) → new ≡ mid ++ r ∷ [] → mid ≡ old → group_of r ≡ fresh → groups_of old es ≡ gs
    → groups_of new es ≡ begun gs
one_begun old mid new es gs r more same is seen =
    ap (λ (xs : List Group). let s : Groups = record { groups = xs; engaged = es } in s)
    (ap (map group_of) (more ∙ ap (λ rs. rs ++ r ∷ []) same) ∙ map-append group_of old (r ∷ []) ∙ ap (λ x. map group_of old ++ x ∷ []) is)
    ∙ ap begun seen
