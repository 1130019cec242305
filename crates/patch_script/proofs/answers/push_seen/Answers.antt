use Rattle.std.proofs.Common.{◌++◌, ◌∙◌, List, ℕ, ap, append_assoc, codes, string_bytes}
use Rattle.hex.specs.Hex.{encode_lower}
use Rattle.patch_script.proofs.answers.push_seen.Goals as goal

pub returns : goal.returns
returns c =
    let cached = codes " cached " ++ encode_lower c.args.cached.now in
    c.in_ok-push_hex-2.ensures ∙ ap (λ (t : List ℕ). t ++ cached) c.in_ok-push_hex.ensures
    ∙ append_assoc (string_bytes c.args.out.now) (codes "without " ++ encode_lower c.args.without.now) cached
