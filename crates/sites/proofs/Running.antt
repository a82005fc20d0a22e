-- Runs one after the other, and with the sites in each other's places: what was taken stays taken, a turn once had stays had, full exchanges
-- are runs, and a state after a run from a state reached is reached.
use mathlib.Core.Path.{◌≡◌, refl, ap, ◌∙◌}
use mathlib.Core.List.{List, Memᴰ}
use Prim.Native.Nat.{ℕ}
use Rattle.std.specs.Prelude.{Result, Ok, Err}
use Rattle.decision.specs.declared.request.Request.{Request}
use Rattle.sites.specs.Line.{Party, Act, System, swapped, Step, Steps, joined, Reached}
use Rattle.sites.specs.Exchange.{accepted, took, taken_a, taken_b, Turn, Half, Full, Exchanges}
use Rattle.sites.specs.declared.note.NoteKind.{NoteKind}
use Rattle.sites.specs.declared.site.NoteRefused.{NoteRefused}
use Rattle.sites.specs.declared.note.NoteKind.TheVariants.{Raise, Receipt}

joined_joined : {session : ℕ} {x y z u : System} (p : Steps session x y) (q : Steps session y z) (o : Steps session z u) →
    joined (joined p q) o ≡ joined p (joined q o)
unfolding joined
joined_joined p q Steps.none = refl
joined_joined p q (Steps.more o step) = ap (λ r. Steps.more r step) (joined_joined p q o)

-- what was taken stays taken
accepted_more : (t : Result NoteKind NoteRefused) (b : List ℕ) {c : List ℕ} {ns : List (List ℕ)} → Memᴰ c ns → Memᴰ c (accepted t b ns)
accepted_more (Ok Raise) b j = Memᴰ.tail j
accepted_more (Ok Receipt) b j = Memᴰ.tail j
accepted_more (Err why) b j = j

took_more : {session : ℕ} {theirs : List (List ℕ)} {c : List ℕ} {p q : Party} (act : Act session theirs p q) {ns : List (List ℕ)} →
    Memᴰ c ns → Memᴰ c (took act ns)
took_more (Act.act_work x works) j = j
took_more (Act.act_write from e l l' sends) j = j
took_more (Act.act_take b l l' r m takes) j = accepted_more r.answer b j
took_more (Act.act_stray b l l' r stray takes) j = j

module _ {session : ℕ} {x y : System} (run : Steps session x y) {c : List ℕ} where
  stays_a : {z : System} (on : Steps session y z) → Memᴰ c (taken_a run) → Memᴰ c (taken_a (joined run on))
  unfolding taken_a joined
  stays_a Steps.none j = j
  stays_a (Steps.more on (Step.step_a act)) j = took_more act (stays_a on j)
  stays_a (Steps.more on (Step.step_b act)) j = stays_a on j

  stays_b : {z : System} (on : Steps session y z) → Memᴰ c (taken_b run) → Memᴰ c (taken_b (joined run on))
  unfolding taken_b joined
  stays_b Steps.none j = j
  stays_b (Steps.more on (Step.step_a act)) j = stays_b on j
  stays_b (Steps.more on (Step.step_b act)) j = took_more act (stays_b on j)

-- a turn once had stays had when the run goes on
pub turn_stays : {session : ℕ} {x y z : System} {run : Steps session x y} {e : ℕ} → Turn run e → (on : Steps session y z) → Turn (joined run on) e
turn_stays t on = record {
  point = t.point;
  before = t.before;
  after = joined t.after on;
  parts = ap (λ r. joined r on) t.parts ∙ joined_joined t.before t.after on;
  told = λ due. (stays_b t.after on (t.told due).0, stays_a t.after on (t.told due).1);
}

-- the two sides are alike
steps_swap : {session : ℕ} {x y : System} → Steps session x y → Steps session (swapped x) (swapped y)
steps_swap Steps.none = Steps.none
steps_swap (Steps.more on (Step.step_a act)) = Steps.more (steps_swap on) (Step.step_b act)
steps_swap (Steps.more on (Step.step_b act)) = Steps.more (steps_swap on) (Step.step_a act)

-- full exchanges are runs
pub half_steps : {session : ℕ} {x y : System} → Half session x y → Steps session x y
half_steps h = joined (Steps.more h.before (Step.step_a (Act.act_work h.worked h.work))) h.after

full_steps : {session : ℕ} {x y : System} → Full session x y → Steps session x y
full_steps e = joined (half_steps e.there) (steps_swap (half_steps e.back))

pub exchanges_steps : {session : ℕ} {x : System} {n : ℕ} {y : System} → Exchanges session x n y → Steps session x y
exchanges_steps Exchanges.begin = Steps.none
exchanges_steps (Exchanges.from_a on e) = joined (exchanges_steps on) (full_steps e)
exchanges_steps (Exchanges.from_b on e) = joined (exchanges_steps on) (steps_swap (full_steps e))

-- what comes after a state reached is reached, and so is the state with the sites in each other's places
module _ {f g : List ℕ} {q : Request} {session : ℕ} {x : System} (r : Reached f g q session x) where
  pub reached_on : {y : System} → Steps session x y → Reached f g q session y
  reached_on on = record { word = r.word; from = r.from; begun_a = r.begun_a; begun_b = r.begun_b; steps = joined r.steps on }

  pub reached_swap : Reached g f q session (swapped x)
  reached_swap = record { word = r.word; from = swapped r.from; begun_a = r.begun_b; begun_b = r.begun_a; steps = steps_swap r.steps }
