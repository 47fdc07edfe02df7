use Rattle.std.proofs.Common.{rules}
use Rattle.schedule_texts.specs.Shared.{group_fields, group_in}
use Rattle.schedule_texts.specs.KitRows.{cert_fault_in, cert_fields, cert_in, heal_fields, heal_in}
use Rattle.schedule_texts.specs.HeadRows.{TakesMemory}
use Rattle.schedule_texts.proofs.TableLemmas.{line_bad, line_good, made_bad, made_good}
use Rattle.schedule_texts.specs.declared.head_line.HeadLine.TheVariants as lines
use Rattle.schedule_texts.proofs.head.HeadTextTableForm.line_of.Goals as goal

pub returns-in_err-read_group-in-Headed-Group : goal.returns-in_err-read_group-in-Headed-Group
returns-in_err-read_group-in-Headed-Group c =
    let x = line_bad group_fields group_in (λ ws. lines.Group (group_in ws)) c.args.args c.in_err-read_group-in-Headed-Group.field-0.0 c.in_err-read_group-in-Headed-Group.ensures in
    rw (c.in-Headed-Group.is-0, c.in-Headed-Group.is-1) (search (rules, x))

pub returns-in_ok-read_group-in-Headed-Group : goal.returns-in_ok-read_group-in-Headed-Group
returns-in_ok-read_group-in-Headed-Group c =
    let x = line_good group_fields group_in lines.Group c.args.args c.in_ok-read_group-in-Headed-Group.field-0 c.in_ok-read_group-in-Headed-Group.ensures in
    rw (c.in-Headed-Group.is-0, c.in-Headed-Group.is-1) (search (rules, x))

pub returns-in_err-read_cert-in-Body-Cert : goal.returns-in_err-read_cert-in-Body-Cert
returns-in_err-read_cert-in-Body-Cert c =
    let x = made_bad cert_fields (cert_fault_in c.in-Body-Cert.group c.in-Body-Cert.authority c.in-Body-Cert.named) (cert_in c.in-Body-Cert.group c.in-Body-Cert.authority) lines.Cert TakesMemory (λ v. tt) c.args.args c.in_err-read_cert-in-Body-Cert.field-0.0 c.in_err-read_cert-in-Body-Cert.ensures in
    rw (c.in-Body-Cert.is-0, c.in-Body-Cert.is-1) (search (rules, x))

pub returns-in_ok-read_cert-in-Body-Cert : goal.returns-in_ok-read_cert-in-Body-Cert
returns-in_ok-read_cert-in-Body-Cert c =
    let x = made_good cert_fields (cert_fault_in c.in-Body-Cert.group c.in-Body-Cert.authority c.in-Body-Cert.named) (cert_in c.in-Body-Cert.group c.in-Body-Cert.authority) lines.Cert c.args.args c.in_ok-read_cert-in-Body-Cert.field-0 c.in_ok-read_cert-in-Body-Cert.ensures in
    rw (c.in-Body-Cert.is-0, c.in-Body-Cert.is-1) (search (rules, x))

pub returns-in_err-read_heal-in-Grouped-default-false-Heal : goal.returns-in_err-read_heal-in-Grouped-default-false-Heal
returns-in_err-read_heal-in-Grouped-default-false-Heal c =
    let x = line_bad heal_fields heal_in (λ ws. lines.Heal (heal_in ws)) c.args.args c.in_err-read_heal-in-Grouped-default-false-Heal.field-0.0 c.in_err-read_heal-in-Grouped-default-false-Heal.ensures in
    search (rules, x)
