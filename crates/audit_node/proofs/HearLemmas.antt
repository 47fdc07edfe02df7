-- Pings and pongs.
use Rattle.std.proofs.Common.{◌≡◌, ◌≢◌, ℕ, Bool, true, false, not, eqb, List, Option, Some, None, refl, ap, sym, ◌∙◌, subst, arith, eq-eqb, Bor}
use Rattle.std.specs.Prelude.{is_some, ◌&&◌, option_copied}
use Rattle.std.proofs.lemmas.Bool.{and_right}
use Rattle.std.proofs.lemmas.Bool.Decides.{nat_tests}
use Rattle.records.specs.declared.CertBody.{CertBody}
use Rattle.validate.specs.Certified.{certificate_of as kept_certificate}
use Rattle.datagram.specs.declared.Datagram.{Datagram}
use Rattle.detector.specs.Silence.{History, counts, ponged}
use Rattle.detector.specs.Kept.{Kept as Probing, StandsFor}
use Rattle.journal.specs.declared.event.Event as journal
use Rattle.journal.specs.declared.event.What.TheVariants as told
use Rattle.node_rules.specs.Nodes.{Setting, Node, state_of, certificate_of, is_certified}
use Rattle.node_rules.specs.Calls.{Call, tells, sends}
use Rattle.node_rules.specs.Deliveries.{is_other, ponged_by}
use Rattle.audit_node.specs.Playing.{Kept, IsMirror, Plays, Grows}
use Rattle.audit_node.proofs.PlayLemmas.{setting-me}
use Rattle.audit_node.proofs.PlayLemmas.{from-fine}

pub some-copied : {X : Type 0} (o : Option (Bor X)) → is_some o ≡ is_some (option_copied o)
some-copied None = refl
some-copied (Some x) = refl

pub other-then : (s : Setting) (v : Kept) (n : Node) (m : ℕ) (o : Option (Bor CertBody)) → IsMirror s v n → option_copied o ≡ kept_certificate v.roster m → m ≢ v.me → is_some o ≡ is_other s n m
other-then s v n m o is got apart =
    let off : eqb m s.me ≡ false = ap (eqb m) (setting-me s v n is) ∙ differs m v.me apart in
    some-copied o ∙ ap is_some (got ∙ is.roster m) ∙ sym (ap (λ b. is_certified n m && not b) off ∙ and-true (is_certified n m))
  where
    differs : (x y : ℕ) → x ≢ y → eqb x y ≡ false
    differs x y h = grind (arith, nat_tests, h)

    and-true : (b : Bool) → (b && true) ≡ b
    and-true true = refl
    and-true false = refl

pub other-else : (s : Setting) (v : Kept) (n : Node) (m : ℕ) → IsMirror s v n → m ≡ v.me → false ≡ is_other s n m
other-else s v n m is same =
    let on : eqb m s.me ≡ true = eq-eqb m s.me (same ∙ sym (setting-me s v n is)) in
    sym (ap (λ b. is_certified n m && not b) on ∙ and_right (is_certified n m) false refl)

-- a datagram of the node itself
pub own-datagram : (s : Setting) (es : List journal.Event) (v v1 : Kept) (c : Call) (to : ℕ) (d : ℕ → Datagram)
    → Plays s es v c → Grows v v1 → Plays s es v1 (sends s (d v.me) c to) → Plays s es v1 (sends s (d s.me) c to)
own-datagram s es v v1 c to d p grows q =
    from-fine s es v v1 c (sends s (d s.me) c to) p grows (λ h.
    subst (λ m. Plays s es v1 (sends s (d m) c to)) (sym (setting-me s v c.node h.is)) q)

-- the probes have changed
abbrev pub with_probes : History → Call → Call
with_probes h c = record c { node = record c.node { probes = h } }

pub probed-at : (s : Setting) (es : List journal.Event) (v : Kept) (c : Call) (d : Probing) (h : History)
    → Plays s es v c → ((is : IsMirror s v c.node) → StandsFor d h) → Plays s es (record v { detector = d }) (with_probes h c)
unfolding state_of certificate_of
probed-at s es v c d h p stands = record {
  at = λ fine.
      let at = p.at fine in
      let n = at.is in
      record {
        is = record { setting = n.setting; signs = n.signs; holds = n.holds; stored = n.stored; records = n.records; roster = n.roster; probes = stands n; news = n.news; since = n.since };
        told = at.told;
        sent = at.sent;
      };
}

pub renonced-is : (s : Setting) (v : Kept) (n : Node) (h later : History) (d : Probing) → IsMirror s v (record n { probes = h }) → StandsFor d later
    → IsMirror s (record v { detector = d }) (record n { probes = later })
unfolding state_of certificate_of
renonced-is s v n h later d is stands =
    record { setting = is.setting; signs = is.signs; holds = is.holds; stored = is.stored; records = is.records; roster = is.roster; probes = stands; news = is.news; since = is.since }

-- whatever the probes were
pub grows-probed : (a b : Kept) (d : Probing) → Grows (record a { detector = d }) b → Grows a b
grows-probed a b d h = record { going = h.going; events = h.events; group = h.group; heal = h.heal; me = h.me }

pub ponged-is : (s : Setting) (from nonce : ℕ) (c : Call) → ponged_by s from nonce c ≡ tells s (told.Pong from nonce (counts c.node.probes from nonce)) (with_probes (ponged c.node.probes from nonce) c)
unfolding state_of
ponged-is s from nonce c = refl
