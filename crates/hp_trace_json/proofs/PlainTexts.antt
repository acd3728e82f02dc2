-- Plain characters, added one after another.
use Rattle.std.proofs.Common.{arith, ℕ, List, [], ◌∷◌, ◌++◌, sym, append_assoc}
use Rattle.std.proofs.lemmas.List.{append-nil}
use Rattle.std.specs.List.{AllByRecursion}
use Rattle.hp_trace_json.specs.Ascii.{AddsPlain, IsPlain}

all_both : (xs ys : List ℕ) → AllByRecursion IsPlain xs → AllByRecursion IsPlain ys
    → AllByRecursion IsPlain (xs ++ ys)
all_both [] ys first last = last
all_both (x ∷ xs) ys first last = (first.0, all_both xs ys first.1 last)

pub plain_none : (old : List ℕ) → AddsPlain old old
plain_none old = ([], sym (append-nil old), tt)

pub plain_more : (old now new : List ℕ) → AddsPlain old now → AddsPlain now new → AddsPlain old new
plain_more old now new first last = grind (arith, append_assoc, all_both)
