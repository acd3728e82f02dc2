-- A turn leaves less of a walk, and fewer turns of a search.
use Rattle.std.proofs.Common.{◌≡◌, ℕ, suc, ◌+◌, ◌-◌, ◌*◌, ◌^◌, ◌<◌, ◌≤◌, List, ◌∷◌, length, ap, sym, ◌∙◌, arith, zero, [], ◌++◌}
use Rattle.std.proofs.Math.Nat.{mul-lt-mul_of_pos_right, one-le-pow, pow-suc}
use Rattle.hp_explore.specs.Frames.{digits, left_of}
use Rattle.hp_schedules.specs.Schedules.{Setting}
use Rattle.hp_states.specs.declared.frames.Level.{Level}
use Rattle.hp_explore.specs.Searches.{turns_below, turns_left}

scaled : (a b e : ℕ) → a < b → 0 < e → a * e < b * e
scaled a b e less some = mul-lt-mul_of_pos_right {m = a} {n = b} {k = e} less some

some_power : (n k : ℕ) → 0 < (n + 2) ^ k
some_power n k = let h : 1 ≤ (n + 2) ^ k = one-le-pow k (n + 2) (omega arith) in omega (arith, h)

-- the weight of a place is that of the next one times so many
next_power : (n most m : ℕ) → m ≤ most → (n + 2) ^ (most + 1 - m) ≡ (n + 2) ^ (most + 1 - suc m) * (n + 2)
next_power n most m le =
    let here : most + 1 - m ≡ suc (most - m) = omega arith in
    let below : most + 1 - suc m ≡ most - m = omega arith in
    ap (λ (k : ℕ). (n + 2) ^ k) here
    ∙ (pow-suc (n + 2) (most - m) ∙ ap (λ (k : ℕ). (n + 2) ^ k * (n + 2)) (sym below))

opened_plain : (d n e p x : ℕ) → 0 < e → p ≡ e * (n + 2) → x ≡ d * (n + 2) + (n + 1) → x * e < (d + 1) * p
opened_plain d n e p x some power is =
    let h : (d * (n + 2) + (n + 1)) * e < ((d + 1) * (n + 2)) * e =
    scaled (d * (n + 2) + (n + 1)) ((d + 1) * (n + 2)) e (omega arith) some in
    omega (arith, h, ap (λ (q : ℕ). (d + 1) * q) power, ap (λ (y : ℕ). y * e) is)

back_plain : (d n e p x t : ℕ) → 0 < e → p ≡ e * (n + 2) → x ≡ d * (n + 2) + t → 0 < t → d * p < x * e
back_plain d n e p x t some power is digit =
    let h : (d * (n + 2)) * e < (d * (n + 2) + t) * e =
    scaled (d * (n + 2)) (d * (n + 2) + t) e (omega arith) some in
    omega (arith, h, ap (λ (q : ℕ). d * q) power, ap (λ (y : ℕ). y * e) is)

-- a processor asks for nothing
pub left_passed : (n most : ℕ) (frames : List Level) (frame later : Level) → frame.next < n
    → later.next ≡ frame.next + 1 → left_of n most (later ∷ frames) < left_of n most (frame ∷ frames)
left_passed n most frames frame later less is = grind (arith, scaled, some_power)

-- a processor leads on: so much is left with its place still to come
pub led_left : (n most : ℕ) (frames : List Level) (frame later : Level) → frame.next < n
    → later.next ≡ frame.next + 1
    → (digits n (later ∷ frames) + 1) * (n + 2) ^ (most + 1 - length (later ∷ frames))
    ≡ left_of n most (frame ∷ frames)
led_left n most frames frame later less is = grind arith

-- and less once its place was come to
pub left_led : (n : ℕ) (g h : Setting) (frames all : List Level) (frame later : Level) (after : ℕ)
    → h ≡ g → all ≡ later ∷ frames → frame.next < n → later.next ≡ frame.next + 1
    → after < (digits n all + 1) * (n + 2) ^ (h.layout.history + 1 - length all)
    → after < left_of n g.layout.history (frame ∷ frames)
left_led n g h frames all frame later after same pushed less is so_far = grind (arith, led_left)

-- the place gets its frame
pub left_opened : (n most : ℕ) (frames : List Level) (frame : Level) → frame.next ≡ 0
    → length frames ≤ most
    → left_of n most (frame ∷ frames) < (digits n frames + 1) * (n + 2) ^ (most + 1 - length frames)
left_opened n most frames frame none le = grind (arith, opened_plain, some_power, next_power)

-- or is left at once
pub left_counted : (n most : ℕ) (frames : List Level)
    → left_of n most frames < (digits n frames + 1) * (n + 2) ^ (most + 1 - length frames)
left_counted n most frames = scaled _ _ _ (omega arith) (some_power n (most + 1 - length frames))

-- a place is left
pub left_back : (n most : ℕ) (frames : List Level) (frame : Level) → frame.next ≤ n → length frames ≤ most
    → left_of n most frames < left_of n most (frame ∷ frames)
left_back n most frames frame within le =
    back_plain (digits n frames) n _ _ _ (n + 1 - frame.next)
    (some_power n (most + 1 - suc (length frames))) (next_power n most (length frames) le) (omega arith)
    (omega arith)

-- ---- the turns of a search

-- one continuation less
one_less : (n next x : ℕ) → next < n → (n - next) * x ≡ (n - (next + 1)) * x + x
one_less n next x less =
    let more : n - next ≡ suc (n - (next + 1)) = omega (arith, less) in
    rw more (omega arith)

-- past a continuation
pub left_past : (n calls : ℕ) (p : List ℕ) (next : ℕ) → next < n
    → turns_left n calls p (next + 1) < turns_left n calls p next
left_past n calls [] next less = omega (arith, one_less n next (turns_below n calls + 2) less)
left_past n calls (c ∷ p) next less = omega (arith, left_past n (calls - 1) p next less)

-- to the first continuation of a continuation
pub left_down : (n calls : ℕ) (p : List ℕ) (next : ℕ) → next < n → length p < calls
    → turns_left n calls (p ++ next ∷ []) 0 < turns_left n calls p next
left_down n zero [] next less room = absurd (omega (arith, room))
left_down n (suc calls) [] next less room = grind (arith, one_less)
left_down n calls (c ∷ p) next less room =
    let shorter : length p < calls - 1 = omega (arith, room) in
    omega (arith, left_down n (calls - 1) p next less shorter)

-- some are left
some_left : (n calls : ℕ) (p : List ℕ) (next : ℕ) → 0 < turns_left n calls p next
some_left n calls [] next = omega arith
some_left n calls (c ∷ p) next = omega arith

-- back to the place itself, past the continuation
pub left_up : (n calls : ℕ) (p : List ℕ) (cpu next : ℕ)
    → turns_left n calls p (cpu + 1) < turns_left n calls (p ++ cpu ∷ []) next
left_up n calls [] cpu next = omega (arith, some_left n (calls - 1) [] next)
left_up n calls (c ∷ p) cpu next = omega (arith, left_up n (calls - 1) p cpu next)
