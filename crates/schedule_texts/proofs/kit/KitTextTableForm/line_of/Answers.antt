use Rattle.std.proofs.Common.{rules}
use Rattle.schedule_texts.specs.Shared.{group_fields, group_in, kinds_fault_in, kinds_fields, kinds_in}
use Rattle.schedule_texts.specs.KitRows.{TakesMemory, cert_fault_in, cert_fields, cert_in, heal_fields, heal_in}
use Rattle.schedule_texts.proofs.TableLemmas.{line_bad, line_good, made_bad, made_good, value_bad, value_good}
use Rattle.schedule_texts.specs.declared.kit_line.KitLine.TheVariants as lines
use Rattle.schedule_texts.proofs.kit.KitTextTableForm.line_of.Goals as goal

pub returns-in_err-read_kinds-in-Grouped-Kinds : goal.returns-in_err-read_kinds-in-Grouped-Kinds
returns-in_err-read_kinds-in-Grouped-Kinds c =
    let x = value_bad (kinds_fields c.args.args) kinds_fault_in kinds_in (λ ws. lines.Kinds (kinds_in ws)) c.args.args c.in_err-read_kinds-in-Grouped-Kinds.field-0.0 c.in_err-read_kinds-in-Grouped-Kinds.ensures in
    rw (c.in-Grouped-Kinds.is-0, c.in-Grouped-Kinds.is-1) (search (rules, x))

pub returns-in_ok-read_kinds-in-Grouped-Kinds : goal.returns-in_ok-read_kinds-in-Grouped-Kinds
returns-in_ok-read_kinds-in-Grouped-Kinds c =
    let x = value_good (kinds_fields c.args.args) kinds_fault_in kinds_in lines.Kinds c.args.args c.in_ok-read_kinds-in-Grouped-Kinds.field-0 c.in_ok-read_kinds-in-Grouped-Kinds.ensures in
    rw (c.in-Grouped-Kinds.is-0, c.in-Grouped-Kinds.is-1) (search (rules, x))

pub returns-in_err-read_group-in-Headed-Group : goal.returns-in_err-read_group-in-Headed-Group
returns-in_err-read_group-in-Headed-Group c =
    let x = line_bad group_fields group_in (λ ws. lines.Group (group_in ws)) c.args.args c.in_err-read_group-in-Headed-Group.field-0.0 c.in_err-read_group-in-Headed-Group.ensures in
    rw (c.in-Headed-Group.is-0, c.in-Headed-Group.is-1) (search (rules, x))

pub returns-in_ok-read_group-in-Headed-Group : goal.returns-in_ok-read_group-in-Headed-Group
returns-in_ok-read_group-in-Headed-Group c =
    let x = line_good group_fields group_in lines.Group c.args.args c.in_ok-read_group-in-Headed-Group.field-0 c.in_ok-read_group-in-Headed-Group.ensures in
    rw (c.in-Headed-Group.is-0, c.in-Headed-Group.is-1) (search (rules, x))

pub returns-in_err-read_cert-in-Body-Cert : goal.returns-in_err-read_cert-in-Body-Cert
returns-in_err-read_cert-in-Body-Cert c =
    let g = c.in-Body-Cert.owner.group in
    let x = made_bad cert_fields (cert_fault_in g c.in-Body-Cert.authority c.in-Body-Cert.named) (cert_in g c.in-Body-Cert.authority) lines.Cert TakesMemory (λ v. tt) c.args.args c.in_err-read_cert-in-Body-Cert.field-0.0 c.in_err-read_cert-in-Body-Cert.ensures in
    rw (c.in-Body-Cert.is-0, c.in-Body-Cert.is-1) (search (rules, x))

pub returns-in_ok-read_cert-in-Body-Cert : goal.returns-in_ok-read_cert-in-Body-Cert
returns-in_ok-read_cert-in-Body-Cert c =
    let g = c.in-Body-Cert.owner.group in
    let x = made_good cert_fields (cert_fault_in g c.in-Body-Cert.authority c.in-Body-Cert.named) (cert_in g c.in-Body-Cert.authority) lines.Cert c.args.args c.in_ok-read_cert-in-Body-Cert.field-0 c.in_ok-read_cert-in-Body-Cert.ensures in
    rw (c.in-Body-Cert.is-0, c.in-Body-Cert.is-1) (search (rules, x))

pub returns-in_err-read_heal-in-Kinded-default-default-false-Heal : goal.returns-in_err-read_heal-in-Kinded-default-default-false-Heal
returns-in_err-read_heal-in-Kinded-default-default-false-Heal c =
    let x = line_bad heal_fields heal_in (λ ws. lines.Heal (heal_in ws)) c.args.args c.in_err-read_heal-in-Kinded-default-default-false-Heal.field-0.0 c.in_err-read_heal-in-Kinded-default-default-false-Heal.ensures in
    search (rules, x)

pub returns-in_ok-read_heal-in-Kinded-default-default-false-Heal : goal.returns-in_ok-read_heal-in-Kinded-default-default-false-Heal
returns-in_ok-read_heal-in-Kinded-default-default-false-Heal c =
    let x = line_good heal_fields heal_in lines.Heal c.args.args c.in_ok-read_heal-in-Kinded-default-default-false-Heal.field-0 c.in_ok-read_heal-in-Kinded-default-default-false-Heal.ensures in
    search (rules, x)
