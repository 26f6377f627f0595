-- One turn of a worker behind others.
use Rattle.std.proofs.Common.{◌≡◌, ◌⊎◌, ◌+◌, ◌*◌, ◌<◌, ◌≤◌, ℕ, suc, List, [], ◌∷◌, ◌++◌, length, Option, None, Some, refl, sym, ap, subst, ◌∙◌, inl, inr, ⊎_elim, length-append, arith}
use Rattle.std.specs.Prelude.{IfSome, IsSome}
use native.Mathlib.Nat.{suc-mul}
use mathlib.Core.Option.{some-ne-none}
use Rattle.serial_arena.specs.Key.{key_of}
use Rattle.serial_arena.specs.Serial.{SerialState, places_of, buffers_of, blocks_of}
use Rattle.arena_list.proofs.Words.Lists.{at_below, at_end}
use Rattle.dyn_message.specs.declared.msg_ref.MsgRef.{MsgRef}
use Rattle.dyn_message.specs.Feet.{KeepsOthers}
use Rattle.dyn_message.specs.Changes.{Changes}
use Rattle.dyn_message.proofs.Changing.{changes_join, fresh_before}
use Rattle.pb_parse.proofs.Memories.{nothing_changes}
use Rattle.life_ids.specs.Cache.{CacheState}
use Rattle.ts_arena.specs.declared.pass.Pass.{Pass}
use Rattle.ts_arena.specs.Passes.{caller_of, slot_of, steps_of, HasPart, IsPassOf, FitsPass}
use Rattle.parse_pool.specs.declared.pool_end.FrameResult.{FrameResult}
use Rattle.pb_schema.specs.Meter.{Meter}
use Rattle.parse_pool.specs.Phases.{PhaseState, payload_at, fault_at, end_of, frame_of, most_in, cost_at, cost_in}
use Rattle.parse_pool.specs.Parsed.{IsParsed, AreSeparate, HasParsed, HasTurned, PartCosts, shape_at}
use Rattle.parse_pool.proofs.Messages.{stands_on, feet_separate, fresh_separate}

module _ (ph : PhaseState) where
  -- what was parsed stands on where the part grows
  pub parsed_on : (before after next : SerialState) (frame : ℕ) (msg : MsgRef) → KeepsOthers (places_of after) (buffers_of after) (places_of next) (buffers_of next) [] → IsParsed ph before after frame msg → IsParsed ph before next frame msg
  parsed_on before after next frame msg keeps p = record {
    type = p.type;
    stands = record {
      now = p.stands.now;
      stands = stands_on ph.schema (places_of after) (places_of next) (buffers_of after) (buffers_of next) msg (shape_at ph frame) p.stands.now keeps p.stands.stands;
      from = p.stands.from;
    };
    tree = p.tree;
  }

  -- what was parsed behind others was parsed since the first of them
  pub parsed_since : (first before after : SerialState) (frame : ℕ) (msg : MsgRef) → (p a : ℕ) → Changes key_of places_of buffers_of blocks_of p a [] first before → IsParsed ph before after frame msg → IsParsed ph first after frame msg
  parsed_since first before after frame msg p a c m = record {
    type = m.type;
    stands = record {
      now = m.stands.now;
      stands = m.stands.stands;
      from = λ foot among. inr (⊎_elim (λ old. absurd (omega (arith, old))) (λ none. fresh_before (places_of first) (places_of before) (buffers_of first) (buffers_of before) foot (c.still_there foot) none) (m.stands.from foot among));
    };
    tree = m.tree;
  }

  -- two messages stay separate where the part grows
  pub separate_on : (before after next : SerialState) (f g : ℕ) (one other : MsgRef) → KeepsOthers (places_of after) (buffers_of after) (places_of next) (buffers_of next) [] → IsParsed ph before after f one → IsParsed ph before after g other → AreSeparate ph after one other → AreSeparate ph next one other
  unfolding parsed_on
  separate_on before after next f g one other keeps p q apart =
      let st = p.stands.stands in let su = q.stands.stands in
      feet_separate ph.schema (places_of next) (buffers_of next) one other (shape_at ph f) (shape_at ph g) p.stands.now q.stands.now
      (parsed_on before after next f one keeps p).stands.stands
      (parsed_on before after next g other keeps q).stands.stands
      (apart (shape_at ph f) (shape_at ph g) p.stands.now q.stands.now st su)

  -- a message shares nothing with one that is parsed later
  pub separate_new : (before after next : SerialState) (f g : ℕ) (one other : MsgRef) → KeepsOthers (places_of after) (buffers_of after) (places_of next) (buffers_of next) [] → IsParsed ph before after f one → IsParsed ph after next g other → AreSeparate ph next one other
  unfolding parsed_on
  separate_new before after next f g one other keeps p q =
      feet_separate ph.schema (places_of next) (buffers_of next) one other (shape_at ph f) (shape_at ph g) p.stands.now q.stands.now
      (parsed_on before after next f one keeps p).stands.stands
      q.stands.stands
      (fresh_separate ph.schema (places_of after) (buffers_of after) one (shape_at ph f) p.stands.now q.stands.now p.stands.stands
      (λ foot among. ⊎_elim (λ old. absurd (omega (arith, old))) (λ none. none) (q.stands.from foot among)))

  -- nothing was parsed
  pub none_parsed : (worker : ℕ) (part : SerialState) → HasParsed ph worker 0 part part []
  none_parsed worker part = record {
    changes = nothing_changes key_of places_of buffers_of blocks_of [] part;
    messages = λ turn r at. absurd (some-ne-none _ (sym at));
    apart = λ one other r q less at to. absurd (some-ne-none _ (sym at));
    costs = λ same. record { space = refl; kept = refl };
  }

  -- what a part was made to hold twice is both together
  costs_join : (before after next : SerialState) (x y : Meter → ℕ) → PartCosts ph before after x → PartCosts ph after next y → PartCosts ph before next (λ meter. x meter + y meter)
  costs_join before after next x y a b = record { space = omega (arith, a.space, b.space); kept = omega (arith, a.kept, b.kept) }

  -- a turn that went badly
  pub refused_parsed : (worker turns : ℕ) (before after next : SerialState) (results : List FrameResult) → length results ≤ turns → HasParsed ph worker turns before after results
      → Changes key_of places_of buffers_of blocks_of (4 * length (payload_at ph (frame_of ph worker turns)) + 4) (4 * length (payload_at ph (frame_of ph worker turns)) + 4) [] after next
      → HasParsed ph worker (suc turns) before next results
  refused_parsed worker turns before after next results few h c = record {
    changes = changes_join key_of places_of buffers_of blocks_of (most_in ph worker turns) (4 * length (payload_at ph (frame_of ph worker turns)) + 4) (most_in ph worker turns) (4 * length (payload_at ph (frame_of ph worker turns)) + 4) [] before after next h.changes c;
    messages = λ turn r at. parsed_on before after next r.frame r.msg c.others (h.messages turn r at);
    apart = λ one other r q less at to. separate_on before after next r.frame q.frame r.msg q.msg c.others (h.messages one r at) (h.messages other q to) (h.apart one other r q less at to);
    costs = λ same. absurd (omega (arith, same, few));
  }

  -- a turn that went well
  pub one_more_parsed : (worker turns : ℕ) (before after next : SerialState) (results : List FrameResult) (result : FrameResult) → length results ≤ turns → HasParsed ph worker turns before after results
      → Changes key_of places_of buffers_of blocks_of (4 * length (payload_at ph (frame_of ph worker turns)) + 4) (4 * length (payload_at ph (frame_of ph worker turns)) + 4) [] after next
      → IsParsed ph after next result.frame result.msg
      → PartCosts ph after next (λ meter. cost_at meter ph (frame_of ph worker turns))
      → HasParsed ph worker (suc turns) before next (results ++ result ∷ [])
  one_more_parsed worker turns before after next results result few h c m cost =
      let kept = refused_parsed worker turns before after next results few h c in
      let here : IsParsed ph before next result.frame result.msg = parsed_since before after next result.frame result.msg (most_in ph worker turns) (most_in ph worker turns) h.changes m in record {
        changes = kept.changes;
        messages = λ turn r at. ⊎_elim
            (λ old. kept.messages turn r old)
            (λ new. subst (λ (x : FrameResult). IsParsed ph before next x.frame x.msg) new.1 here)
            (at_end results result r turn at);
        apart = λ one other r q less at to. ⊎_elim
            (λ old_r. ⊎_elim
            (λ old_q. kept.apart one other r q less old_r old_q)
            (λ new_q. subst (λ (x : FrameResult). AreSeparate ph next r.msg x.msg) new_q.1 (separate_new before after next r.frame result.frame r.msg result.msg c.others (h.messages one r old_r) m))
            (at_end results result q other to))
            (λ new_r. ⊎_elim
            (λ old_q. let below = at_below results other q old_q in let is = new_r.0 in absurd (omega arith))
            (λ new_q. let first = new_r.0 in let second = new_q.0 in absurd (omega arith))
            (at_end results result q other to))
            (at_end results result r one at);
        costs = λ same. costs_join before after next (λ meter. cost_in meter ph worker turns) (λ meter. cost_at meter ph (frame_of ph worker turns)) (h.costs (omega (arith, same, length-append results (result ∷ [])))) cost;
      }

-- A WORKER'S TURNS

slot_first : (a : Option ℕ) → IfSome a (λ s. a ≡ Some s)
slot_first None = tt
slot_first (Some s) = refl

slot_on : (a b c : Option ℕ) → IfSome a (λ s. b ≡ Some s) → IfSome b (λ s. c ≡ Some s) → IfSome a (λ s. c ≡ Some s)
slot_on None b c e f = tt
slot_on (Some s) b c e f = subst (λ (x : Option ℕ). IfSome x (λ t. c ≡ Some t)) e f

-- what one turn tells of a pass and its cache, whatever became of the frame
pub record Steps (ph : PhaseState) (frame : ℕ) (before : Pass) (was : CacheState) (now : Pass) (cache : CacheState) : Type 0 where
  pub made : IsPassOf ph.shared now
  pub caller : caller_of now ≡ caller_of before
  pub fits : FitsPass cache now
  pub life : cache.life ≡ ph.shared.life
  pub slot : IfSome (slot_of before) (λ slot. slot_of now ≡ Some slot)
  pub joined : slot_of now ≡ Some cache.slot
  pub no_step : was.life ≡ ph.shared.life → steps_of now ≡ steps_of before
  pub steps : (steps_of before ≤ steps_of now) × (steps_of now ≤ steps_of before + 193)
  pub grown : (part : SerialState) → HasPart before part → (after : SerialState) × HasPart now after
      × Changes key_of places_of buffers_of blocks_of (4 * length (payload_at ph frame) + 4) (4 * length (payload_at ph frame) + 4) [] part after

module _ (ph : PhaseState) (worker : ℕ) (first : Pass) (old : CacheState) where
  pub turned_first : IsPassOf ph.shared first → FitsPass old first → HasTurned ph worker 0 first old first old []
  turned_first made fits = record {
    made = made;
    caller = refl;
    fits = fits;
    cached = inl (refl, refl);
    slot = slot_first (slot_of first);
    joined = λ some. absurd (omega (arith, some));
    begun = (omega arith, omega arith);
    there = λ turn less. absurd (omega (arith, less));
    frames = λ turn r at. absurd (some-ne-none _ (sym at));
    sound = λ turn less. absurd (omega (arith, less));
    parsed = λ part has. (part, has, none_parsed ph worker part);
  }

  module _ (before : Pass) (was : CacheState) (results : List FrameResult) (t : HasTurned ph worker (length results) first old before was results) (now : Pass) (cache : CacheState) (within : frame_of ph worker (length results) < end_of ph) where
    steps_on : Steps ph (frame_of ph worker (length results)) before was now cache → (steps_of first ≤ steps_of now) × (steps_of now ≤ steps_of first + 193)
    steps_on s = ⊎_elim
        (λ none. let same = none.1 in let more = s.steps in (omega arith, omega arith))
        (λ walked. let same = s.no_step walked.0 in let more = walked.1 in (omega arith, omega arith))
        t.cached

    there_on : (turn : ℕ) → turn < suc (length results) → frame_of ph worker turn < end_of ph
    there_on turn less = ⊎_elim
        (λ below. t.there turn below)
        (λ same. subst (λ (k : ℕ). frame_of ph worker k < end_of ph) (sym same) within)
        (last_or turn (length results) less)
      where
        last_or : (a b : ℕ) → a < suc b → (a < b) ⊎ (a ≡ b)
        last_or a b less = grind arith

    -- a turn that gave no result
    pub turned_badly : Steps ph (frame_of ph worker (length results)) before was now cache → HasTurned ph worker (suc (length results)) first old now cache results
    turned_badly s = record {
      made = s.made;
      caller = s.caller ∙ t.caller;
      fits = s.fits;
      cached = (let few = steps_on s in inr (s.life, few.0, few.1));
      slot = slot_on (slot_of first) (slot_of before) (slot_of now) t.slot s.slot;
      joined = λ some. subst IsSome (sym s.joined) refl;
      begun = (omega arith, omega arith);
      there = there_on;
      frames = t.frames;
      sound = t.sound;
      parsed = λ part has.
          let was_parsed = t.parsed part has in
          let grown = s.grown was_parsed.0 was_parsed.1 in
          (grown.0, grown.1, refused_parsed ph worker (length results) part was_parsed.0 grown.0 results (omega arith) was_parsed.2 grown.2);
    }

    -- a turn that gave one
    pub turned_well : (result : FrameResult) → result.frame ≡ frame_of ph worker (length results) → Steps ph (frame_of ph worker (length results)) before was now cache
        → fault_at ph (frame_of ph worker (length results)) ≡ None
        → ((part : SerialState) → HasPart before part → (after : SerialState) × HasPart now after × Changes key_of places_of buffers_of blocks_of (4 * length (payload_at ph (frame_of ph worker (length results))) + 4) (4 * length (payload_at ph (frame_of ph worker (length results))) + 4) [] part after × IsParsed ph part after result.frame result.msg × PartCosts ph part after (λ meter. cost_at meter ph (frame_of ph worker (length results))))
        → HasTurned ph worker (length (results ++ result ∷ [])) first old now cache (results ++ result ∷ [])
    turned_well result is s sound message =
        let bad = turned_badly s in
        let more : length (results ++ result ∷ []) ≡ suc (length results) = omega (arith, length-append results (result ∷ [])) in
        subst (λ (n : ℕ). HasTurned ph worker n first old now cache (results ++ result ∷ [])) (sym more) (record {
          made = bad.made;
          caller = bad.caller;
          fits = bad.fits;
          cached = bad.cached;
          slot = bad.slot;
          joined = λ some. subst IsSome (sym s.joined) refl;
          begun = (omega (arith, more), omega (arith, more));
          there = bad.there;
          frames = λ turn r at. ⊎_elim
              (λ earlier. t.frames turn r earlier)
              (λ new. ap (λ (x : FrameResult). x.frame) (sym new.1) ∙ is ∙ ap (frame_of ph worker) (sym new.0))
              (at_end results result r turn at);
          sound = λ turn less. ⊎_elim
              (λ below. t.sound turn below)
              (λ same. subst (λ (k : ℕ). fault_at ph (frame_of ph worker k) ≡ None) (sym same) sound)
              (below_or turn (length results) (omega (arith, less, more)));
          parsed = λ part has.
              let was_parsed = t.parsed part has in
              let grown = message was_parsed.0 was_parsed.1 in
              (grown.0, grown.1, one_more_parsed ph worker (length results) part was_parsed.0 grown.0 results result (omega arith) was_parsed.2 grown.2 grown.3 grown.4);
        })
      where
        below_or : (a b : ℕ) → a < b + 1 → (a < b) ⊎ (a ≡ b)
        below_or a b less = grind arith

-- the frame of the next turn
pub next_frame : (ph : PhaseState) (worker : ℕ) (results : List FrameResult) (result : FrameResult) (frame workers : ℕ) → frame ≡ frame_of ph worker (length results) → workers ≡ ph.workers → frame + workers ≡ frame_of ph worker (length (results ++ result ∷ []))
next_frame ph worker results result frame workers is same =
    let more : length (results ++ result ∷ []) ≡ suc (length results) = omega (arith, length-append results (result ∷ [])) in
    let whole : suc (length results) * ph.workers ≡ length results * ph.workers + ph.workers = suc-mul (length results) ph.workers in
    ap (λ n. frame + n) same ∙ ap (λ n. n + ph.workers) is ∙ turn_is (ph.first + worker) (length results * ph.workers) ph.workers (suc (length results) * ph.workers) whole ∙ ap (frame_of ph worker) (sym more)
  where
    turn_is : (a b n m : ℕ) → m ≡ b + n → a + b + n ≡ a + m
    turn_is a b n m is = omega (arith, is)
