-- What is kept of writers: what their patches come after.
use Rattle.std.proofs.Common.{◌≡◌, ℕ, ◌∙◌, inl, inr, true, List, [], ◌∷◌, ◌++◌, Some, map, filter, refl, sym, ap, subst, get_or, set, get_or-set_other}
use Rattle.std.specs.Prelude.{◌==◌}
use Rattle.std.specs.List.{flat_map}
use Rattle.std.proofs.lemmas.Bool.{both_ways, eq-eqb}
use Rattle.std.proofs.lemmas.List.Elements.{All-nil, All-push}
use Rattle.patch_model.specs.Runs.{numbers_in}
use Rattle.patch_model.specs.Member.{In, Contains-from_In, filter-In, list_any-from}
use Rattle.patch_plans.specs.Rising.{rising}
use Rattle.patch_plans.specs.Groups.{Group, Groups, fresh, before, patches_of, is_engaged, engaged_by, after_of, entered, with_patch}
use Rattle.patch_plans.specs.Members.{map-In, flat_map-In}
use Rattle.patch_plans.specs.Chaining.{entered_alike}
use Rattle.patch_group.specs.declared.records.Before.{Before}
use Rattle.patch_group.specs.declared.records.Record.{Record}
use Rattle.patch_group.specs.Records.{group_of, groups_of, groups_before, names_of, AreBefore, AreSealed}
use Rattle.patch_group.proofs.Arranging.{rising-flat_map}
use Rattle.patch_group.proofs.Sealing.{sealed_joined}

flat_map_alike : (f g : ℕ → List ℕ) (ns : List ℕ) → ((n : ℕ) → In ns n → f n ≡ g n) → flat_map f ns ≡ flat_map g ns
flat_map_alike f g [] same = refl
flat_map_alike f g (n ∷ ns) same =
    ap (λ xs. xs ++ flat_map f ns) (same n (inl refl)) ∙ ap (λ xs. g n ++ xs) (flat_map_alike f g ns (λ m i. same m (inr i)))

-- a group that isn't among these keeps its patches
entered_elsewhere : (groups : List Group) (names : List ℕ) (n i : ℕ) → (In names i → ⊥) → (get_or (entered groups names n) i fresh).patches ≡ (get_or groups i fresh).patches
entered_elsewhere groups [] n i none = refl
entered_elsewhere groups (g ∷ names) n i none =
    let joined : Group = record (get_or groups g fresh) { patches = (get_or groups g fresh).patches ++ n ∷ [] } in
    entered_elsewhere (set groups g joined) names n i (λ later. none (inr later))
    ∙ ap (λ x. x.patches) (get_or-set_other groups g i joined fresh (λ e. none (inl (sym e))))

engages : (gs : Groups) (writer g : ℕ) → In (engaged_by gs writer) g → is_engaged gs g ≡ true
engages gs writer g i =
    let r = map-In (λ e. e.1) (filter (λ e. e.0 == writer) gs.engaged) g i in
    let f = filter-In (λ e. e.0 == writer) gs.engaged r.0 r.1 in
    list_any-from (λ e. e.1 == g) gs.engaged r.0 f.0 (eq-eqb _ _ r.2)

-- a group before another is engaged by no writer, so it keeps its patches
before_stays : (gs : Groups) (writer n q p : ℕ) → AreSealed gs → In (before gs q) p → patches_of (with_patch gs (Some writer) n) p ≡ patches_of gs p
before_stays gs writer n q p s i =
    entered_elsewhere gs.groups (engaged_by gs writer) n p (λ mine. both_ways _ (s.free p (s.sealed q p (Contains-from_In _ p i))) (engages gs writer p mine))

-- so a patch leaves what patches come after
after_joined : (gs : Groups) (writer n other : ℕ) → AreSealed gs → after_of gs other ≡ after_of (with_patch gs (Some writer) n) other
after_joined gs writer n other s =
    let now = with_patch gs (Some writer) n in
    let mine = engaged_by gs other in
    let alike : flat_map (before gs) mine ≡ flat_map (before now) mine = flat_map_alike (before gs) (before now) mine (λ g i. sym (entered_alike gs writer n g).before) in
    ap rising (flat_map_alike (patches_of gs) (patches_of now) (flat_map (before gs) mine) (λ p i.
    let r = flat_map-In (before gs) mine p i in
    sym (before_stays gs writer n r.0 p s r.2)))
    ∙ ap (λ ps. rising (flat_map (patches_of now) ps)) alike

kept_joined : {A : Type 0} → (gs : Groups) (writer n : ℕ) (kept : List (Before A)) → AreSealed gs → AreBefore gs kept → AreBefore (with_patch gs (Some writer) n) kept
kept_joined gs writer n kept s are i d l = are i d l ∙ after_joined gs writer n _ s

-- what holds of the groups holds of them with more room
pub held_same : {A : Type 0} → (P : Groups → Type 0) (old new : List (Record A)) (es : List (ℕ × ℕ)) → map group_of new ≡ map group_of old → P (groups_of old es) → P (groups_of new es)
held_same {A} P old new es same holds = subst (λ (gs : List Group). P (let s : Groups = record { groups = gs; engaged = es } in s)) (sym same) holds

-- the groups that a patch has entered
joined_are : {A : Type 0} → (old mid new : List (Record A)) (es given : List (ℕ × ℕ)) (writer n : ℕ) → map group_of mid ≡ map group_of old → given ≡ es
    → map group_of new ≡ entered (map group_of mid) (names_of given writer) n → groups_of new es ≡ with_patch (groups_of old es) (Some writer) n
joined_are {A} old mid new es given writer n same is joined =
    ap (λ (gs : List Group). let s : Groups = record { groups = gs; engaged = es } in s)
    (joined ∙ ap (λ xs. entered (map group_of mid) (names_of xs writer) n) is ∙ ap (λ gs. entered gs (names_of es writer) n) same)

pub kept_entered : {A : Type 0} → (old mid new : List (Record A)) (es given : List (ℕ × ℕ)) (writer n : ℕ) (kept : List (Before A)) → map group_of mid ≡ map group_of old → given ≡ es
    → map group_of new ≡ entered (map group_of mid) (names_of given writer) n → AreSealed (groups_of old es) → AreBefore (groups_of old es) kept → AreBefore (groups_of new es) kept
kept_entered {A} old mid new es given writer n kept same is joined s are =
    subst (λ gs. AreBefore gs kept) (sym (joined_are old mid new es given writer n same is joined)) (kept_joined (groups_of old es) writer n kept s are)

pub sealed_entered : {A : Type 0} → (old mid new : List (Record A)) (es given : List (ℕ × ℕ)) (writer n : ℕ) → map group_of mid ≡ map group_of old → given ≡ es
    → map group_of new ≡ entered (map group_of mid) (names_of given writer) n → AreSealed (groups_of old es) → AreSealed (groups_of new es)
sealed_entered {A} old mid new es given writer n same is joined s =
    subst AreSealed (sym (joined_are old mid new es given writer n same is joined)) (sealed_joined (groups_of old es) writer n s)

pub none_kept : {A : Type 0} → (gs : Groups) (kept : List (Before A)) → kept ≡ [] → AreBefore gs kept
none_kept {A} gs kept none = subst (AreBefore gs) (sym none) (All-nil (λ (k : Before A). numbers_in k.runs.items ≡ after_of gs k.writer))

pub one_more_kept : {A : Type 0} → (gs : Groups) (old mid new : List (Before A)) (one : Before A) → mid ≡ old → new ≡ mid ++ one ∷ [] → AreBefore gs old
    → numbers_in one.runs.items ≡ after_of gs one.writer → AreBefore gs new
one_more_kept {A} gs old mid new one same more are is =
    let holds : Before A → Type 0 = λ k. numbers_in k.runs.items ≡ after_of gs k.writer in
    subst (AreBefore gs) (sym (more ∙ ap (λ ks. ks ++ one ∷ []) same)) (All-push holds old one are is)

-- what comes after the patches of the groups before
pub after_before : (gs : Groups) (writer : ℕ) → rising (flat_map (patches_of gs) (groups_before gs writer)) ≡ after_of gs writer
after_before gs writer = rising-flat_map (patches_of gs) (flat_map (before gs) (engaged_by gs writer))
