-- After two beginnings that continue alike, each processor makes the same call, and the call makes the
-- same record.
use Rattle.std.proofs.Common.{◌≡◌, ℕ, ◌+◌, Bool, true, false, cond, eqb, List, [], ◌∷◌, ◌++◌, length, map, Option, Some, None, slice_get, refl, ap, sym, ◌∙◌, arith, inl, inr}
use Rattle.std.specs.Prelude.{option_map}
use Rattle.std.proofs.lemmas.List.{append-nil, append_assoc, length-append, length_push}
use Rattle.std.proofs.lemmas.Option.{none-some}
use Rattle.hp_units.specs.History.{Effect, Looks, Cancels, Acts, cancel_reply, effect_of, effect_reply, is_refused, net_of, net_with, reply_of, run, value_of}
use Rattle.hp_units.specs.Marks.{sole_at, tag_of}
use Rattle.hp_units.specs.Memory.{Memory}
use Rattle.hp_units.specs.Receipts.{receipt_of, receipts_of}
use Rattle.hp_units.specs.Step.{step}
use Rattle.hp_units.specs.declared.events.Event.{Event}
use Rattle.hp_units.specs.declared.replies.Receipt.{Receipt}
use Rattle.hp_units.specs.declared.replies.Record.{Record}
use Rattle.hp_units.specs.declared.replies.Reply.{Reply}
use Rattle.hp_units.specs.declared.replies.Reply.TheVariants.{Opened, Restored}
use Rattle.hp_laws.proofs.Net.{net-push}
use Rattle.hp_laws.proofs.Steps.{steps}
use Rattle.hp_laws.specs.Renumbered.{IsOneToOne, renumbered_event, renumbered_reply}
use Rattle.hp_laws.proofs.Alike.{effect_same, renumbered_effect, steps_same}
use Rattle.hp_schedules.specs.Alike.{AreMergeable, leaves_steps}
use Rattle.hp_schedules.specs.Continuing.{AreSameBy, AreSameReceipts}
use Rattle.hp_schedules.specs.Schedules.{Setting, next_call, record_of_call}
use Rattle.hp_schedules.specs.Scripts.{next_of}
use Rattle.hp_schedules.specs.declared.scripts.Step.{Step}
use Rattle.hp_schedules.proofs.JoinedBy.{IsSameRecord, cancelled_same, joined_more}
use Rattle.hp_schedules.proofs.Agreeing.{script_mergeable}
use Rattle.hp_laws.proofs.Options.{cases_option}
use Rattle.hp_schedules.proofs.Steps.{receipts_push}
use Rattle.hp_schedules.proofs.Unnumbered.{lines_leave}

-- ---- the same call

pub all_calls : (g : Setting) (h k : List Record) → length h ≡ length k
    → length (g.start ++ h) ≡ length (g.start ++ k)
all_calls g h k same = omega (arith, length-append g.start h, length-append g.start k, same)

-- a reply that opens an operation names it by this number
abbrev Opens : (n : ℕ) → Reply → Type 0
Opens n reply = (op : ℕ) → reply ≡ Opened op → op ≡ n

told_same : (p q : ℕ → ℕ) (n : ℕ) → p n ≡ q n → (reply : Reply) → Opens n reply
    → renumbered_reply p reply ≡ renumbered_reply q reply
told_same p q n number (Opened op) opens = rw (opens op refl, number)
told_same p q n number reply opens = refl

-- two replies are the same, and open an operation by no other number
record IsSameReply (n : ℕ) (a b : Reply) : Type 0 where
  pub same : a ≡ b
  pub opens : Opens n a

cancelled_opens : (n : ℕ) (reply : Reply) (place : Option ℕ) → Opens n reply
    → Opens n (cancel_reply reply place)
cancelled_opens n reply None opens = opens
cancelled_opens n reply (Some place) opens = by_reply (is_refused reply)
  where
    by_reply : (refused : Bool) → Opens n (cond refused reply Restored)
    by_reply true = opens
    by_reply false = λ op e. absurd cc

pub event_kept : (g : Setting) (h : List Record) (cpu : ℕ) (e : Event) → (record_of_call g h cpu e).event ≡ e
unfolding record_of_call
event_kept g h cpu e = refl

-- with one record more
ahead_more : (p q : ℕ → ℕ) (cpus cpu : ℕ) (lines : List Step) (h k : List Record) (r s : Record)
    (xs ys : List Receipt)
    → IsSameRecord p q r s → AreSameReceipts p q xs ys
    → ((more others : List Receipt) → AreSameReceipts p q more others
    → option_map (renumbered_event p) (next_of cpus lines (receipts_of cpu h ++ more))
    ≡ option_map (renumbered_event q) (next_of cpus lines (receipts_of cpu k ++ others)))
    → option_map (renumbered_event p) (next_of cpus lines (receipts_of cpu (h ++ r ∷ []) ++ xs))
    ≡ option_map (renumbered_event q) (next_of cpus lines (receipts_of cpu (k ++ s ∷ []) ++ ys))
ahead_more p q cpus cpu lines h k r s xs ys one later same =
    let own = ap (λ (c : ℕ). eqb c cpu) (sym one.cpu) in
    rw (longer h r (eqb r.cpu cpu) xs refl, longer k s (eqb r.cpu cpu) ys own)
    (same (cond (eqb r.cpu cpu) (receipt_of r ∷ []) [] ++ xs)
    (cond (eqb r.cpu cpu) (receipt_of s ∷ []) [] ++ ys) (all (eqb r.cpu cpu)))
  where
    longer : (news : List Record) (latest : Record) (own : Bool) (zs : List Receipt)
        → eqb latest.cpu cpu ≡ own
        → receipts_of cpu (news ++ latest ∷ []) ++ zs
        ≡ receipts_of cpu news ++ (cond own (receipt_of latest ∷ []) [] ++ zs)
    longer news latest own zs is = rw (receipts_push cpu news latest own is, append_assoc)

    all : (own : Bool)
        → AreSameReceipts p q (cond own (receipt_of r ∷ []) [] ++ xs) (cond own (receipt_of s ∷ []) [] ++ ys)
    all true = (one.receipt, later)
    all false = later

-- ---- the same record

module _ (p q : ℕ → ℕ) (p_one : IsOneToOne p) (q_one : IsOneToOne q) (g : Setting) (h k : List Record) where
  -- the same event has the same reply
  reply_same : (cpu : ℕ) (e d : Event)
      → AreSameBy p q g h k → renumbered_event p e ≡ renumbered_event q d
      → leaves_steps (effect_of e) ≡ true → leaves_steps (effect_of d) ≡ true
      → IsSameReply (g.before + length (g.start ++ h) + 1)
      (reply_of g.layout g.base g.before (g.start ++ h) cpu e)
      (reply_of g.layout g.base g.before (g.start ++ k) cpu d)
  unfolding reply_of value_of
  reply_same cpu e d alike same e_leaves d_leaves =
      by_effect (effect_of e) (effect_of d) effects e_leaves d_leaves
    where
      n : ℕ
      n = g.before + length (g.start ++ h) + 1

      s : Memory
      s = run g.layout g.base (net_of (g.start ++ h))

      t : Memory
      t = run g.layout g.base (net_of (g.start ++ k))

      number : p n ≡ q n
      number = alike.later n (omega arith)

      effects : renumbered_effect p (effect_of e) ≡ renumbered_effect q (effect_of d)
      effects = sym (effect_same p e) ∙ (ap effect_of same ∙ effect_same q d)

      stepped : (step g.layout s n cpu e).reply
          ≡ (step g.layout t (g.before + length (g.start ++ k) + 1) cpu d).reply
      stepped =
          (steps_same p q p_one q_one g.layout s t n cpu e d number alike.nets.state same).reply
          ∙ ap (λ (m : ℕ). (step g.layout t (g.before + m + 1) cpu d).reply) (all_calls g h k alike.calls)

      opens : Opens n (step g.layout s n cpu e).reply
      opens = (steps g.layout s n cpu e).opened

      by_effect : (a b : Effect) → renumbered_effect p a ≡ renumbered_effect q b
          → leaves_steps a ≡ true → leaves_steps b ≡ true
          → IsSameReply n (effect_reply g.layout g.before (g.before + length (g.start ++ h))
          (net_of (g.start ++ h)) s n cpu e a)
          (effect_reply g.layout g.before (g.before + length (g.start ++ k)) (net_of (g.start ++ k)) t
          (g.before + length (g.start ++ k) + 1) cpu d b)
      by_effect Looks Looks are is of = record { same = stepped; opens = opens }
      by_effect (Cancels x) (Cancels y) are is of = record {
        same =
            rw stepped (cancelled_same p q p_one q_one g.layout g.base (net_of (g.start ++ h))
            (net_of (g.start ++ k)) x y (step g.layout t (g.before + length (g.start ++ k) + 1) cpu d).reply
            alike.nets op);
        opens =
            cancelled_opens n (step g.layout s n cpu e).reply (sole_at x (map tag_of (net_of (g.start ++ h))))
            opens;
      }
        where
          op : p x ≡ q y
          op = cc
      by_effect Acts Acts are is of = record { same = stepped; opens = opens }
      by_effect a b are is of = absurd cc

  -- and makes the same record
  pub record_same : (cpu : ℕ) (e d : Event)
      → AreSameBy p q g h k → renumbered_event p e ≡ renumbered_event q d
      → leaves_steps (effect_of e) ≡ true → leaves_steps (effect_of d) ≡ true
      → IsSameRecord p q (record_of_call g h cpu e) (record_of_call g k cpu d)
  unfolding record_of_call
  record_same cpu e d alike same e_leaves d_leaves = record {
    serial = serials;
    cpu = refl;
    receipt = record {
      number = number ∙ ap q serials;
      event = same;
      reply = replies.same;
      told =
          told_same p q (g.before + length (g.start ++ h) + 1) number
          (reply_of g.layout g.base g.before (g.start ++ h) cpu e) replies.opens
          ∙ ap (renumbered_reply q) replies.same;
    };
  }
    where
      serials : g.before + length (g.start ++ h) + 1 ≡ g.before + length (g.start ++ k) + 1
      serials = ap (λ (n : ℕ). g.before + n + 1) (all_calls g h k alike.calls)

      number : p (g.before + length (g.start ++ h) + 1) ≡ q (g.before + length (g.start ++ h) + 1)
      number = alike.later (g.before + length (g.start ++ h) + 1) (omega arith)

      replies : IsSameReply (g.before + length (g.start ++ h) + 1)
          (reply_of g.layout g.base g.before (g.start ++ h) cpu e)
          (reply_of g.layout g.base g.before (g.start ++ k) cpu d)
      replies = reply_same cpu e d alike same e_leaves d_leaves

  -- one record more
  pub same_more : (r s : Record)
      → leaves_steps (effect_of r.event) ≡ true → leaves_steps (effect_of s.event) ≡ true
      → IsSameRecord p q r s → AreSameBy p q g h k → AreSameBy p q g (h ++ r ∷ []) (k ++ s ∷ [])
  same_more r s leaves other_leaves one alike = record {
    calls = rw (length_push h r, length_push k s, alike.calls);
    later = λ n past. alike.later n (omega (arith, length-append {A = Record}, length_push h r));
    ahead = λ cpu lines here xs ys later.
        ahead_more p q g.layout.cpus cpu lines h k r s xs ys one later (alike.ahead cpu lines here);
    nets =
        rw (net_is h r, net_is k s)
        (joined_more p q p_one q_one g.layout g.base (net_of (g.start ++ h)) (net_of (g.start ++ k)) r s one
        leaves other_leaves alike.nets);
  }
    where
      net_is : (news : List Record) (latest : Record)
          → net_of (g.start ++ (news ++ latest ∷ [])) ≡ net_with (net_of (g.start ++ news)) latest
      net_is news latest =
          ap net_of (sym (append_assoc g.start news (latest ∷ []))) ∙ net-push (g.start ++ news) latest

-- ---- the same requests

-- of a processor
pub call_same : (p q : ℕ → ℕ) (g : Setting) (h k : List Record) (cpu : ℕ) → AreSameBy p q g h k
    → option_map (renumbered_event p) (next_call g cpu h)
    ≡ option_map (renumbered_event q) (next_call g cpu k)
unfolding next_call
call_same p q g h k cpu alike =
    elim (cases_option (slice_get g.scripts cpu)) [
      | inl none ↦ rw none
      | inr lines ↦ rw lines.1 (simp append-nil at (alike.ahead cpu lines.0 lines.1 [] [] tt))
    ]

-- which undo nothing by serials
pub call_leaves : (g : Setting) (h : List Record) (cpu : ℕ) (e : Event) → AreMergeable g.scripts
    → next_call g cpu h ≡ Some e → leaves_steps (effect_of e) ≡ true
unfolding next_call
call_leaves g h cpu e all is = grind (arith, cases_option, none-some, lines_leave, script_mergeable)
