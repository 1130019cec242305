use Rattle.std.proofs.Common.{◌≡◌, ◌<◌, ◌≤◌, ◌∙◌, ◌+◌, ◌++◌, ◌∷◌, [], ℕ, List, length, get_or, drop, Option, Some, None, option_map, refl, sym, ap, append_assoc, arith}
use Rattle.std.proofs.lemmas.List.{append-nil, drop_more, at_drop_all}
use Rattle.serde_json.specs.declared.value.Value.{Value}
use Rattle.serde_json.specs.View.{view, items_view}
use Rattle.patch_script.specs.Field.{◌>>=◌, whole, wholes_of, with_front}
use Rattle.patch_script.proofs.objects.numbers_in.Goals as goal

no_front : (read : Option (List ℕ)) → with_front [] read ≡ read
no_front None = refl
no_front (Some rest) = refl

-- a number that is read joins those in front
front_more : (front next : List ℕ) (first : Option ℕ) (read : Option (List ℕ)) → option_map (λ n. front ++ n ∷ []) first ≡ Some next
    → with_front next read ≡ with_front front (first >>= λ n. read >>= λ rest. Some (n ∷ rest))
front_more front next None read is = absurd cc
front_more front next (Some n) None is = refl
front_more front next (Some n) (Some rest) is =
    let longer : front ++ n ∷ [] ≡ next = cc in
    ap (λ xs. Some (xs ++ rest)) (sym longer) ∙ ap (λ xs. Some xs) (append_assoc front (n ∷ []) rest)

pub loop-value-init : goal.loop-value-init
loop-value-init c =
    let read = wholes_of (items_view c.args.values.now.items) in
    ap (λ (front : List ℕ). with_front front read) c.new-numbers.ensures.items ∙ no_front read

pub loop-value-preserved : goal.loop-value-preserved
loop-value-preserved c =
    let values = c.args.values.now.items in
    let i = c.loop-value.value-index in
    let front = c.loop-value.numbers.items in
    let same : c.deref-value-items.result.now ≡ values = c.deref-value-items.ensures.value in
    let test = c.loop-value-test.true in
    let long = ap length same in
    let below : i < length values = omega (arith, test, long) in
    let here : c.value-item.result ≡ get_or values i c.value-item.result = c.value-item.is ∙ ap (λ (xs : List Value). get_or xs i c.value-item.result) same in
    let at : drop i values ≡ c.value-item.result ∷ drop (i + 1) values = drop_more values i c.value-item.result below ∙ ap (λ (x : Value). x ∷ drop (i + 1) values) (sym here) in
    front_more front c.push_whole.new.numbers.items (whole (view c.value-item.result)) (wholes_of (items_view (drop (i + 1) values))) c.in_default.ensures.ok
    ∙ ap (λ (xs : List Value). with_front front (wholes_of (items_view xs))) (sym at) ∙ c.loop-value.invariant

pub returns : goal.returns
returns c =
    let values = c.args.values.now.items in
    let front = c.loop-value.numbers.items in
    let test = c.loop-value-test.false in
    let long = ap length c.deref-value-items.ensures.value in
    let over : length values ≤ c.loop-value.value-index = omega (arith, test, long) in
    sym c.loop-value.invariant ∙ at_drop_all (λ (xs : List Value). with_front front (wholes_of (items_view xs))) values c.loop-value.value-index over
    ∙ ap (λ (xs : List ℕ). Some xs) (append-nil front ∙ sym c.from_vec.ensures)
