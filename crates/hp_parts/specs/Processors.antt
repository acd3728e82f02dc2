-- The processors of an end's first schedule, as the end's line has them.
use Rattle.std.specs.Prelude.{ℕ, true, List, ◌++◌, codes}
use Rattle.std.specs.Fmt.{decimal}
use Rattle.hp_text.specs.Separated.{separated}

-- the key `processors`, the processors in the order of the calls, and the object's closing bracket
abbrev pub processor_list : (schedule : List ℕ) → List ℕ
processor_list schedule =
    codes ", \"processors\": [" ++ separated (codes ", ") decimal true schedule ++ codes "]}"
