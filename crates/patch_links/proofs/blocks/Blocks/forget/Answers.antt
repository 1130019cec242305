use Rattle.std.proofs.Common.{ap, false, rules, subst, sym, ◌∙◌, ◌≡◌}
use Rattle.patch_links.specs.Lists.{AreNoted, ByBlock, LetsGo, is_open, lists_of, of_at}
use Rattle.patch_links.proofs.BlockRows.{Rows, let-go, noted-taken}
use Rattle.patch_links.proofs.blocks.Blocks.forget.Goals as goal

pub invariant_of-self : goal.invariant_of-self
invariant_of-self g c =
    let rows = c.self.inside.lists.items in
    let none = c.has_no_class.ensures c.if-has_no_class.true in
    let shut : is_open (of_at (lists_of rows) c.args.block) ≡ false =
    subst (λ (z : ByBlock). is_open (of_at z.items c.args.block) ≡ false) (sym c.self.view_is) (c.requires (ap (λ z. (of_at z.items c.args.block).count) (sym c.self.view_is) ∙ none)) in
    subst (AreNoted c.self.inside.open) (sym c.take-lists.ensures.left)
    (noted-taken rows c.block.inside.0 c.self.inside.open c.self.invariant (ap (λ n. is_open (of_at (lists_of rows) n)) c.block.view_is ∙ shut))

pub returns-then-has_no_class : goal.returns-then-has_no_class
returns-then-has_no_class g c =
    let rows = c.self.inside.lists.items in
    let none = c.has_no_class.ensures c.if-has_no_class.true in
    let goes : LetsGo (lists_of rows) (lists_of c.take-lists.new.self.items) =
    subst (λ (xs : Rows). LetsGo (lists_of rows) (lists_of xs)) (sym c.take-lists.ensures.left) (let-go rows c.block.inside.0 (ap (λ n. (of_at (lists_of rows) n).count) c.block.view_is ∙ none)) in
    let told : LetsGo c.args.self.now.items (lists_of c.take-lists.new.self.items) = subst (λ (z : ByBlock). LetsGo z.items (lists_of c.take-lists.new.self.items)) c.self.view_is goes in
    let same : c.match-lists.self ≡ record { items = lists_of c.take-lists.new.self.items } = search rules in
    subst (λ (z : ByBlock). LetsGo c.args.self.now.items z.items) (sym same) told
