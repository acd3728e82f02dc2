-- The exit status of a search for an order that explains answers.
use Rattle.std.specs.Prelude.{ℕ}
use Rattle.hp_explain.specs.declared.telling.ExplainResult.{ExplainResult}
use Rattle.hp_explain.specs.declared.telling.ExplainResult.TheVariants.{Explained, Unexplained, Unknown}

-- 0 if an order explains the answers; 3 if none does, or it is not known
abbrev pub explain_status : ExplainResult → ℕ
explain_status Explained = 0
explain_status Unexplained = 3
explain_status Unknown = 3
