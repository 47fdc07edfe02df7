-- What stands as lines are written and datagrams are sent.
use Rattle.std.proofs.Common.{◌≡◌, ℕ, Bool, List, [], ◌++◌, Option, Some, None, Result, Ok, Err, refl, sym, ap, ◌∙◌, subst, append_assoc, take, take-append-drop, drop}
use Rattle.std.specs.Io.KnownBytes.{Appends}
use Rattle.std.proofs.KnownBytes.{Appends-nil, Appends-trans}
use Rattle.ports.specs.Disk.{Moment}
use Rattle.ports.specs.Link.{LinkState, with_given}
use Rattle.fields.specs.declared.NoMemory.{NoMemory}
use Rattle.node_core.specs.Playing.{Kept}
use Rattle.node_core.specs.Spending.{LivesOn}
use Rattle.node_core.proofs.SpendLemmas.{lives-trans}
use Rattle.signer.specs.Lives.{Spent}
use Rattle.node_loop.specs.declared.fault.ServeFault.{ServeFault}
use Rattle.node_loop.specs.declared.fault.ServeFault.TheVariants as faults
use Rattle.node_loop.specs.Courses.{ServeState, writes, fails_next}
use Rattle.node_loop.specs.Writing.{Before, Standing, standing, IsAt, IsWithin, IsBeyond, Tells, WritesLine, HandsOver, KeepsGiven, Extends}
use Rattle.node_loop.proofs.CourseLemmas.{Grows, front-refl, front-trans}
use Rattle.std.specs.Option.{option_map}
use Rattle.std.specs.Prelude.{unwrap_or}
use Rattle.ports.specs.Count.{next_count}
use Rattle.validate.specs.Certified.{certificate_of as kept_certificate}
use Rattle.node_loop.specs.Courses.{hands_over, port_in}
use Rattle.node_loop.proofs.CourseLemmas.{front-append}

-- ---- what stands within a course

pub within-grows : (before : Before) (w : Standing) (r whole : ServeState) → IsWithin before w r → Grows r whole → IsWithin before w whole
within-grows before w r whole h g = record {
  text = h.text;
  front = front-trans h.text r.text whole.text h.front g.text;
  written = h.written;
  link = h.link;
  told = h.told;
  given = front-trans h.link.given r.link.given whole.link.given h.given g.given;
  spent = h.spent;
  made = front-trans h.spent r.spent whole.spent h.made g.spent;
  key = h.key;
}

pub at-within : (before : Before) (w : Standing) (r : ServeState) → IsAt before w r → IsWithin before w r
at-within before w r at = record {
  text = r.text;
  front = front-refl r.text;
  written = at.text;
  link = r.link;
  told = at.link;
  given = front-refl r.link.given;
  spent = r.spent;
  made = front-refl r.spent;
  key = at.key;
}

-- what broke off within a course broke off within a longer one
pub tells-more : (before : Before) (w : Standing) (r whole : ServeState) (e : ServeFault)
    → Tells before w r (Err e) → Grows r whole → Tells before w whole (Err e)
tells-more before w r whole faults.StoreFault h g = h
tells-more before w r whole faults.WriteFault h g = within-grows before w r whole h g
tells-more before w r whole faults.OutOfMemory h g = within-grows before w r whole h g

-- ---- lines

pub written : (before : Before) (v : Kept) (link : Option LinkState) (taken after : Option (List ℕ)) (moments : List Moment) (sent : ℕ) (line : List ℕ) (r : ServeState)
    (answer : Result (Unit {0}) ServeFault) → IsAt before (standing v link taken moments sent) r → WritesLine taken after line answer
    → Tells before (standing v link after moments sent) (writes line r) answer
written before v link taken after moments sent line r (Ok x) at wrote = record {
  knows = at.knows;
  link = at.link;
  text = Appends-trans before.taken taken after r.text line at.text wrote;
  sent = at.sent;
  key = at.key;
}
written before v link taken after moments sent line r (Err faults.StoreFault) at wrote = wrote
written before v link taken after moments sent line r (Err faults.WriteFault) at wrote = record {
  text = r.text ++ take wrote.count line;
  front = record {
    more = drop wrote.count line;
    is = ap (λ xs. r.text ++ xs) (sym (take-append-drop wrote.count line)) ∙ sym (append_assoc r.text (take wrote.count line) (drop wrote.count line));
  };
  written = Appends-trans before.taken taken after r.text (take wrote.count line) at.text wrote.gained;
  link = r.link;
  told = at.link;
  given = front-refl r.link.given;
  spent = r.spent;
  made = front-refl r.spent;
  key = at.key;
}
written before v link taken after moments sent line r (Err faults.OutOfMemory) at same = record {
  text = r.text;
  front = front-append r.text line;
  written = subst (λ x. Appends before.taken x r.text) (sym same) at.text;
  link = r.link;
  told = at.link;
  given = front-refl r.link.given;
  spent = r.spent;
  made = front-refl r.spent;
  key = at.key;
}

-- ---- datagrams

pub port-of : (before : Before) (w : Standing) (r : ServeState) (to : ℕ) → IsAt before w r
    → unwrap_or (option_map (λ c. c.port) (kept_certificate w.node.roster to)) 0 ≡ port_in r.node to
port-of before w r to at = ap (λ c. unwrap_or (option_map (λ x. x.port) c) 0) (at.knows to)

given-by : (port : ℕ) (bytes : List ℕ) (was : LinkState) (link after : Option LinkState) (lost : Bool) → link ≡ Some was
    → HandsOver port bytes link after (Ok lost) → HandsOver port bytes (Some was) after (Ok lost)
given-by port bytes was link after lost is h = subst (λ x. HandsOver port bytes x after (Ok lost)) is h

refused-by : (port : ℕ) (bytes : List ℕ) (was : LinkState) (link after : Option LinkState) (e : NoMemory) → link ≡ Some was
    → HandsOver port bytes link after (Err e) → after ≡ Some was
refused-by port bytes was link after e is h = let P : Option LinkState → Type 0 = λ x. HandsOver port bytes x after (Err e) in subst P is h

-- the datagram was given
pub handed : (before : Before) (v : Kept) (link after : Option LinkState) (taken : Option (List ℕ)) (moments : List Moment) (sent to : ℕ) (bytes : List ℕ) (r : ServeState) (lost : Bool)
    → IsAt before (standing v link taken moments sent) r → HandsOver (unwrap_or (option_map (λ c. c.port) (kept_certificate v.roster to)) 0) bytes link after (Ok lost)
    → IsAt before (standing v after taken moments (next_count sent)) (hands_over to bytes r)
handed before v link after taken moments sent to bytes r lost at h =
    let port = unwrap_or (option_map (λ c. c.port) (kept_certificate v.roster to)) 0 in
    record {
      knows = at.knows;
      link = (given-by port bytes r.link link after lost at.link h).1
          ∙ ap (λ p. Some (with_given p bytes r.link)) (port-of before (standing v link taken moments sent) r to at);
      text = at.text;
      sent = ap next_count at.sent;
      key = at.key;
    }

pub lost-is : (before : Before) (v : Kept) (link after : Option LinkState) (taken : Option (List ℕ)) (moments : List Moment) (sent port : ℕ) (bytes : List ℕ) (r : ServeState) (lost : Bool)
    → IsAt before (standing v link taken moments sent) r → HandsOver port bytes link after (Ok lost) → lost ≡ fails_next r.link
lost-is before v link after taken moments sent port bytes r lost at h = (given-by port bytes r.link link after lost at.link h).0

-- memory was refused for the datagram
pub not-handed : (before : Before) (v : Kept) (link after : Option LinkState) (taken : Option (List ℕ)) (moments : List Moment) (sent port : ℕ) (bytes : List ℕ) (r : ServeState) (e : NoMemory)
    → IsAt before (standing v link taken moments sent) r → HandsOver port bytes link after (Err e) → IsWithin before (standing v after taken moments sent) r
not-handed before v link after taken moments sent port bytes r e at h = record {
  text = r.text;
  front = front-refl r.text;
  written = at.text;
  link = r.link;
  told = refused-by port bytes r.link link after e at.link h;
  given = front-refl r.link.given;
  spent = r.spent;
  made = front-refl r.spent;
  key = at.key;
}

-- ---- what was there stands

pub keeps-refl : (link : Option LinkState) → KeepsGiven link link
keeps-refl None = tt
keeps-refl (Some link) = (link, (refl, front-refl link.given))

pub keeps-trans : (a b c : Option LinkState) → KeepsGiven a b → KeepsGiven b c → KeepsGiven a c
keeps-trans None b c p q = tt
keeps-trans (Some x) b c (y, (is, front)) q =
    let P : Option LinkState → Type 0 = λ o. KeepsGiven o c in
    joined (subst P is q)
  where
    joined : KeepsGiven (Some y) c → KeepsGiven (Some x) c
    joined (z, (same, more)) = (z, (same, front-trans x.given y.given z.given front more))

pub extends-refl : (taken : Option (List ℕ)) (link : Option LinkState) → Extends taken taken link link
extends-refl taken link = record { text = []; written = Appends-nil taken; given = keeps-refl link }

pub extends-trans : (t1 t2 t3 : Option (List ℕ)) (l1 l2 l3 : Option LinkState) → Extends t1 t2 l1 l2 → Extends t2 t3 l2 l3 → Extends t1 t3 l1 l3
extends-trans t1 t2 t3 l1 l2 l3 p q = record {
  text = p.text ++ q.text;
  written = Appends-trans t1 t2 t3 p.text q.text p.written q.written;
  given = keeps-trans l1 l2 l3 p.given q.given;
}

pub extends-line : (taken after : Option (List ℕ)) (link : Option LinkState) (line : List ℕ) (answer : Result (Unit {0}) ServeFault) → WritesLine taken after line answer → Extends taken after link link
extends-line taken after link line (Ok x) wrote = record { text = line; written = wrote; given = keeps-refl link }
extends-line taken after link line (Err faults.StoreFault) wrote = absurd wrote
extends-line taken after link line (Err faults.WriteFault) wrote = record { text = take wrote.count line; written = wrote.gained; given = keeps-refl link }
extends-line taken after link line (Err faults.OutOfMemory) same = subst (λ x. Extends taken x link link) (sym same) (extends-refl taken link)

pub keeps-handed : (port : ℕ) (bytes : List ℕ) (link after : Option LinkState) (answer : Result Bool NoMemory) → HandsOver port bytes link after answer → KeepsGiven link after
keeps-handed port bytes None after answer h = tt
keeps-handed port bytes (Some link) after (Ok lost) (is, told) = (with_given port bytes link, (told, front-append link.given _))
keeps-handed port bytes (Some link) after (Err e) told = (link, (told, front-refl link.given))

pub extends-handed : (taken : Option (List ℕ)) (port : ℕ) (bytes : List ℕ) (link after : Option LinkState) (answer : Result Bool NoMemory) → HandsOver port bytes link after answer → Extends taken taken link after
extends-handed taken port bytes link after answer h = record { text = []; written = Appends-nil taken; given = keeps-handed port bytes link after answer h }

pub not-given : (port : ℕ) (bytes : List ℕ) (link after : Option LinkState) (refused : NoMemory) → HandsOver port bytes link after (Err refused) → after ≡ link
not-given port bytes None after refused h = h
not-given port bytes (Some link) after refused h = h

-- a course that the link and the sink stood at is a front of what stands
pub beyond : (before : Before) (v v1 : Kept) (link later : Option LinkState) (taken after : Option (List ℕ)) (older newer : List Moment) (sent sent1 : ℕ) (r : ServeState) (spent : List Spent)
    → IsAt before (standing v link taken older sent) r → Extends taken after link later → LivesOn spent v.signer v1.signer older newer → IsBeyond before (standing v1 later after newer sent1) r
beyond before v v1 link later taken after older newer sent sent1 r spent at more lives =
    let P : Option LinkState → Type 0 = λ o. KeepsGiven o later in
    let given : KeepsGiven (Some r.link) later = subst P at.link more.given in
    record {
      text = r.text ++ more.text;
      front = front-append r.text more.text;
      written = Appends-trans before.taken taken after r.text more.text at.text more.written;
      link = given.0;
      told = given.1.0;
      given = given.1.1;
      spent = r.spent ++ spent;
      made = front-append r.spent spent;
      key = lives-trans r.spent spent before.signer v.signer v1.signer before.moments older newer at.key lives;
    }
