use Rattle.std.proofs.Common.{◌≡◌, ℕ, Option, Some, None, List, length, set, ap, ◌∙◌, length-set}
use Rattle.std.specs.Prelude.{replicate}
use Rattle.std.proofs.lemmas.List.{length-replicate}
use Rattle.il_verifier.specs.Search.{depth_at}
use Rattle.il_verifier.proofs.Starts.{starts}
use Rattle.il_verifier.proofs.depth.start.Goals as goal

pub returns : goal.returns
returns c =
    let all : c.in_ok-depths.depths.items ≡ replicate {A = Option ℕ} c.args.size None =
    c.in_ok-depths.ensures in
    record {
      len = length-set c.in_ok-depths.depths.items 0 (Some 0) ∙ (ap length all ∙ length-replicate c.args.size None);
      start = λ at. ap (λ (ds : List (Option ℕ)). depth_at (set ds 0 (Some 0)) at) all ∙ starts c.args.size c.requires at;
    }
